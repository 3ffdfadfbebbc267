-- The keywords that further lines begin with: each is a field, none makes a line that is skipped, and no two are alike.
--
-- The crates above may cite table_letters: what a table prints as.
use Rattle.std.specs.Prelude.{nat_le}
use Rattle.std.specs.List.{list_all}
use Rattle.std.proofs.Common.{◌≡◌, ℕ, ◌≤◌, cond, eqb, true, List, [], length, get_or, refl, sym, ap, ◌∙◌, inl, inr, arith}
use Rattle.ags_text.specs.Field.{IsField}
use Rattle.ags_text.proofs.Deciding.{decide_list}
use Rattle.ags_certtext.specs.declared.keywords.Keyword.{Keyword}
use Rattle.ags_certtext.specs.declared.keywords.Keyword.TheVariants as keyword
use Rattle.ags_certtext.specs.declared.kinds.Table.{Table}
use Rattle.ags_certtext.specs.declared.kinds.Table.TheVariants.{Cell, Init, In, Out, At}
use Rattle.ags_certtext.specs.Kind.{table_name}
use Rattle.ags_certtext.specs.Operand.{keyword_name}
use Rattle.ags_certtext.proofs.FoundLemmas.{OneFound}

-- ---- the names of tables

table_field : (table : Table) → IsField (table_name table)
table_field Cell = record { some = omega arith; marks = refl }
table_field Init = record { some = omega arith; marks = refl }
table_field In = record { some = omega arith; marks = refl }
table_field Out = record { some = omega arith; marks = refl }
table_field At = record { some = omega arith; marks = refl }

table_first : (table : Table) → (table_name table ≡ [] → ⊥) × (get_or (table_name table) 0 0 ≡ 35 → ⊥)
table_first Cell = (λ is. cc, λ is. omega (arith, is))
table_first Init = (λ is. cc, λ is. omega (arith, is))
table_first In = (λ is. cc, λ is. omega (arith, is))
table_first Out = (λ is. cc, λ is. omega (arith, is))
table_first At = (λ is. cc, λ is. omega (arith, is))

-- five letters at most, none of them a control character
pub table_letters : (table : Table) → (list_all (λ (letter : ℕ). nat_le 32 letter) (table_name table) ≡ true) × (length (table_name table) ≤ 5)
table_letters Cell = (refl, omega arith)
table_letters Init = (refl, omega arith)
table_letters In = (refl, omega arith)
table_letters Out = (refl, omega arith)
table_letters At = (refl, omega arith)

-- the table of a name, told by its first letter and, of IN and INIT, by its length
abbrev table_by : (letter long : ℕ) → Table
table_by letter long = cond (eqb letter 67) Cell (cond (eqb letter 79) Out (cond (eqb letter 65) At (cond (eqb long 2) In Init)))

-- ---- keywords

pub keyword_field : (its : Keyword) → IsField (keyword_name its)
keyword_field keyword.Start = record { some = omega arith; marks = refl }
keyword_field (keyword.Entry table) = table_field table
keyword_field keyword.May = record { some = omega arith; marks = refl }
keyword_field keyword.Row = record { some = omega arith; marks = refl }
keyword_field keyword.Link = record { some = omega arith; marks = refl }
keyword_field keyword.End = record { some = omega arith; marks = refl }

-- it is no empty text, and doesn't begin with a number sign
pub some_first : (its : Keyword) → (keyword_name its ≡ [] → ⊥) × (get_or (keyword_name its) 0 0 ≡ 35 → ⊥)
some_first keyword.Start = (λ is. cc, λ is. omega (arith, is))
some_first (keyword.Entry table) = table_first table
some_first keyword.May = (λ is. cc, λ is. omega (arith, is))
some_first keyword.Row = (λ is. cc, λ is. omega (arith, is))
some_first keyword.Link = (λ is. cc, λ is. omega (arith, is))
some_first keyword.End = (λ is. cc, λ is. omega (arith, is))

-- the keyword of a name, told by its first letter, where it isn't a table's
abbrev keyword_by : (letter long : ℕ) → Keyword
keyword_by letter long =
    cond (eqb letter 83) keyword.Start (cond (eqb letter 77) keyword.May (cond (eqb letter 82) keyword.Row (cond (eqb letter 69) keyword.End
    (cond (eqb letter 76) keyword.Link (keyword.Entry (table_by letter long))))))

abbrev keyword_of : List ℕ → Keyword
keyword_of name = keyword_by (get_or name 0 0) (length name)

table_is : (table : Table) → keyword_of (table_name table) ≡ keyword.Entry table
table_is Cell = refl
table_is Init = refl
table_is In = refl
table_is Out = refl
table_is At = refl

keyword_is : (its : Keyword) → keyword_of (keyword_name its) ≡ its
keyword_is keyword.Start = refl
keyword_is (keyword.Entry table) = table_is table
keyword_is keyword.May = refl
keyword_is keyword.Row = refl
keyword_is keyword.Link = refl
keyword_is keyword.End = refl

-- a name is that of one keyword, or of none
pub keyword_found : (name : List ℕ) → OneFound Keyword (λ its. keyword_name its ≡ name)
keyword_found name =
    elim (decide_list (keyword_name (keyword_of name)) name) [
      | inl is ↦ inl (record { it = keyword_of name; is = is; one = λ its named. sym (keyword_is its) ∙ ap keyword_of named })
      | inr fails ↦ inr (λ its named. fails (ap (λ (t : List ℕ). keyword_name (keyword_of t)) (sym named) ∙ ap keyword_name (keyword_is its) ∙ named))
    ]
