use Rattle.std.proofs.Common.{◌≡◌, ℕ, List, ◌++◌, Option, refl, sym, ◌∙◌, append_assoc}
use Rattle.std.specs.Prelude.{codes}
use Rattle.ags_advice.specs.Finding.{finding_text, kind_in, number_in, place_text, shown_in, shown_text, wanted_of_line}
use Rattle.ags_advice.specs.Heading.{form_of}
use Rattle.ags_advice.specs.declared.headings.Form.{Form}
use Rattle.ags_advice.specs.declared.headings.Form.TheVariants.{FaultOnLine, Fault, Item, Edit, OnLine, Topic, Whole, Name, File, Answer}
use Rattle.ags_advice.specs.declared.headings.Heading.{Heading}
use Rattle.ags_advice.proofs.findings.FindingDisplay.fmt.Goals as goal

-- what is printed of a refusal, by its parts
item_text : (heading : Heading) (form : Form) (number : Option ℕ) (certificate file line kind shown wanted : List ℕ) → form ≡ form_of heading → form ≡ Item
    → shown ≡ shown_in form line → kind ≡ kind_in form line → number ≡ number_in form line → wanted ≡ wanted_of_line heading kind number
    → finding_text heading certificate file line ≡ (certificate ++ codes ": ") ++ (shown ++ (codes ": " ++ (wanted ++ codes " (docs/CHECKER.md, The verdict)")))
item_text heading form number certificate file line kind shown wanted of is shown_is kind_is number_is wanted_is =
    rw (sym of ∙ is) (rw (shown_is, wanted_is, kind_is, number_is, is) (simp append_assoc refl))

pub returns-in-Item-clause-writes : goal.returns-in-Item-clause-writes
returns-in-Item-clause-writes g c =
    rw (item_text c.args.self.now.heading c.form-form.result c.number_in-number.result c.args.self.now.certificate.now c.args.self.now.file.now
    c.args.self.now.line.now c.kind_in.result.now c.shown_in-shown.result.now c.wanted_of_line-wanted.result.now c.form-form.ensures c.in-Item.is
    c.shown_in-shown.ensures c.kind_in.ensures c.number_in-number.ensures c.wanted_of_line-wanted.ensures) c.write.ensures.writes

-- of an absent file
name_text : (heading : Heading) (form : Form) (number : Option ℕ) (certificate file line kind shown wanted : List ℕ) → form ≡ form_of heading → form ≡ Name
    → shown ≡ shown_in form line → kind ≡ kind_in form line → number ≡ number_in form line → wanted ≡ wanted_of_line heading kind number
    → finding_text heading certificate file line ≡ shown ++ (codes ": " ++ wanted)
name_text heading form number certificate file line kind shown wanted of is shown_is kind_is number_is wanted_is = rw (sym of ∙ is) (rw (shown_is, wanted_is, kind_is, number_is, is) (simp append_assoc refl))

-- of one that is too long
file_text : (heading : Heading) (form : Form) (number : Option ℕ) (certificate file line kind shown wanted : List ℕ) → form ≡ form_of heading → form ≡ File
    → shown ≡ shown_in form line → kind ≡ kind_in form line → number ≡ number_in form line → wanted ≡ wanted_of_line heading kind number
    → finding_text heading certificate file line ≡ place_text file number ++ wanted
file_text heading form number certificate file line kind shown wanted of is shown_is kind_is number_is wanted_is = rw (sym of ∙ is) (rw (wanted_is, kind_is, number_is, is) refl)

-- and of everything else
other_form : (form : Form) (certificate file line wanted : List ℕ) → (form ≡ Answer → ⊥) → (form ≡ Item → ⊥) → (form ≡ Name → ⊥) → (form ≡ File → ⊥)
    → shown_text form certificate file line wanted ≡ place_text file (number_in form line) ++ (shown_in form line ++ (codes ": " ++ wanted))
other_form FaultOnLine certificate file line wanted no_answer no_item no_name no_file = simp append_assoc refl
other_form Fault certificate file line wanted no_answer no_item no_name no_file = simp append_assoc refl
other_form Edit certificate file line wanted no_answer no_item no_name no_file = simp append_assoc refl
other_form OnLine certificate file line wanted no_answer no_item no_name no_file = simp append_assoc refl
other_form Topic certificate file line wanted no_answer no_item no_name no_file = simp append_assoc refl
other_form Whole certificate file line wanted no_answer no_item no_name no_file = simp append_assoc refl
other_form Item certificate file line wanted no_answer no_item no_name no_file = absurd (no_item refl)
other_form Name certificate file line wanted no_answer no_item no_name no_file = absurd (no_name refl)
other_form File certificate file line wanted no_answer no_item no_name no_file = absurd (no_file refl)
other_form Answer certificate file line wanted no_answer no_item no_name no_file = absurd (no_answer refl)

other_text : (heading : Heading) (form : Form) (number : Option ℕ) (certificate file line kind shown wanted : List ℕ) → form ≡ form_of heading → (form ≡ Answer → ⊥) → (form ≡ Item → ⊥) → (form ≡ Name → ⊥) → (form ≡ File → ⊥)
    → shown ≡ shown_in form line → kind ≡ kind_in form line → number ≡ number_in form line → wanted ≡ wanted_of_line heading kind number
    → finding_text heading certificate file line ≡ place_text file number ++ (shown ++ (codes ": " ++ wanted))
other_text heading form number certificate file line kind shown wanted of no_answer no_item no_name no_file shown_is kind_is number_is wanted_is =
    rw (← of, shown_is, wanted_is, kind_is, number_is) (other_form form certificate file line (wanted_of_line heading (kind_in form line) (number_in form line)) no_answer no_item no_name no_file)

pub returns-in-Name-clause-writes : goal.returns-in-Name-clause-writes
returns-in-Name-clause-writes g c =
    rw (name_text c.args.self.now.heading c.form-form.result c.number_in-number.result c.args.self.now.certificate.now c.args.self.now.file.now
    c.args.self.now.line.now c.kind_in.result.now c.shown_in-shown.result.now c.wanted_of_line-wanted.result.now c.form-form.ensures c.in-Name.is
    c.shown_in-shown.ensures c.kind_in.ensures c.number_in-number.ensures c.wanted_of_line-wanted.ensures) c.write-in-Name.ensures.writes

pub returns-in-File-clause-writes : goal.returns-in-File-clause-writes
returns-in-File-clause-writes g c =
    rw (file_text c.args.self.now.heading c.form-form.result c.number_in-number.result c.args.self.now.certificate.now c.args.self.now.file.now
    c.args.self.now.line.now c.kind_in.result.now c.shown_in-shown.result.now c.wanted_of_line-wanted.result.now c.form-form.ensures c.in-File.is
    c.shown_in-shown.ensures c.kind_in.ensures c.number_in-number.ensures c.wanted_of_line-wanted.ensures) c.write-in-File.ensures.writes

pub returns-in_default-clause-writes : goal.returns-in_default-clause-writes
returns-in_default-clause-writes g c =
    rw (other_text c.args.self.now.heading c.form-form.result c.number_in-number.result c.args.self.now.certificate.now c.args.self.now.file.now
    c.args.self.now.line.now c.kind_in.result.now c.shown_in-shown.result.now c.wanted_of_line-wanted.result.now c.form-form.ensures c.in_default.not-Answer c.in_default.not-Item c.in_default.not-Name c.in_default.not-File
    c.shown_in-shown.ensures c.kind_in.ensures c.number_in-number.ensures c.wanted_of_line-wanted.ensures) c.write-in_default.ensures.writes
