-- Something is told of each list of edits, and one thing alone. Behind the law are
--     some_told, one_told
use Rattle.std.proofs.Common.{◌≡◌, ℕ, zero, suc, ◌<◌, ◌≤◌, ◌⊎◌, inl, inr, ⊎_elim, refl, sym, ap, subst, ◌∙◌, arith, List, [], ◌∷◌, length, get_or}
use Rattle.std.specs.Prelude.{All, Option, Some, None, IfSome, Result, Ok, Err}
use Rattle.std.proofs.lemmas.Bool.{cases_eq, cases_lt}
use Rattle.std.proofs.lemmas.List.Elements.{All-nil, All-cons, All-head, All-tail}
use Rattle.ags_domain.specs.Domain.{IsWithin}
use Rattle.ags_domain.specs.Value.{value_meaning}
use Rattle.ags_domain.specs.declared.values.Value.{Value}
use Rattle.ags_domain.specs.MeaningLaws.{value_lawful}
use Rattle.ags_image.specs.Image.{IsImage, with_word}
use Rattle.ags_image.proofs.ImageLaws.{IsImage-with_word}
use Rattle.ags_ports.specs.Machine.{IsMachine}
use Rattle.ags_row.specs.Limit.{Limiting, cell_limit}
use Rattle.ags_row.specs.declared.ats.At.{At}
use Rattle.ags_row.specs.declared.rows.Row.{Row}
use Rattle.ags_verdict.specs.Verdict.{IsVerdict}
use Rattle.ags_verdict.specs.declared.verdicts.Verdict.{Verdict}
use Rattle.ags_verdict.proofs.VerdictLemmas.{verdict_one}
use Rattle.ags_check.proofs.ToldLemmas.{is_within}
use Rattle.ags_check.proofs.AnswerLemmas.{some_verdict}
use Rattle.ags_certtype.specs.Cert.{Stated, certificate_of}
use Rattle.ags_certtype.specs.Edit.{AreCellsWithin, IsLeastOutside, IsNoRow, IsUseWithin, others_at, with_limit, with_row}
use Rattle.ags_certtype.specs.Limit.{most_rows_at_one}
use Rattle.ags_certtype.specs.declared.edit_errors.EditError.{EditError}
use Rattle.ags_certtype.specs.declared.edit_errors.EditError.TheVariants.{NoRow, OutsideGlobal, BelowUse, FullLocation}
use Rattle.ags_check.specs.Judging.{Judging}
use Rattle.ags_edits.specs.Text.{IsLawful}
use Rattle.ags_edits.specs.declared.edits.Edit.{Edit}
use Rattle.ags_edits.specs.declared.edits.Edit.TheVariants as edit
use Rattle.ags_recheck.specs.Edited.{IsEdited}
use Rattle.ags_recheck.specs.Told.{IsTold, AreTold}
use Rattle.ags_recheck.specs.declared.telling.Told.{Told}
use Rattle.ags_recheck.specs.declared.telling.Told.TheVariants.{Made, NotMade}
use Rattle.ags_recheck.proofs.LawLemmas.{one_stays}

-- ---- what may be asked of each

module _ {X : Type 0} (P : X → Type 0) (decided : (x : X) → Dec (P x)) where
  with_first : (x : X) (xs : List X) → Dec (P x) → Dec (All P xs) → Dec (All P (x ∷ xs))
  with_first x xs (yes is) (yes are) = yes (All-cons P x xs is are)
  with_first x xs (no not) rest = no (λ all. not (All-head P x xs all))
  with_first x xs (yes is) (no not) = no (λ all. not (All-tail P x xs all))

  all_decided : (xs : List X) → Dec (All P xs)
  all_decided [] = yes (All-nil P)
  all_decided (x ∷ xs) = with_first x xs (decided x) (all_decided xs)

where_at : {P : Type 0} (at address : ℕ) → Dec P → Dec (at ≡ address → P)
where_at at address (yes is) = yes (λ same. is)
where_at at address (no not) = ⊎_elim (λ same. no (λ h. not (h same))) (λ apart. yes (λ same. absurd (apart same))) (cases_eq at address)

some_within : (value : Value) (first : Option Value) → Dec (IfSome first (λ held. IsWithin value_meaning held value))
some_within value None = yes tt
some_within value (Some held) = is_within held value

both_used : (stated : Stated) (address : ℕ) (value : Value) → Dec (IfSome (get_or stated.init address None) (λ first. IsWithin value_meaning first value))
    → Dec (All (λ row. All (λ at. at.address ≡ address → IsWithin value_meaning at.value value) row.at) stated.rows) → Dec (IsUseWithin stated address value)
both_used stated address value (yes start) (yes rows) = yes (record { start = start; rows = rows })
both_used stated address value (no not) rows = no (λ is. not is.start)
both_used stated address value (yes start) (no not) = no (λ is. not is.rows)

is_use_within : (stated : Stated) (address : ℕ) (value : Value) → Dec (IsUseWithin stated address value)
is_use_within stated address value = both_used stated address value (some_within value (get_or stated.init address None))
    (all_decided (λ (row : Row Value). All (λ at. at.address ≡ address → IsWithin value_meaning at.value value) row.at)
    (λ row. all_decided (λ (at : At Value). at.address ≡ address → IsWithin value_meaning at.value value)
    (λ at. where_at at.address address (is_within at.value value)) row.at) stated.rows)

is_no_row : (stated : Stated) (number : ℕ) → Dec (IsNoRow stated number)
is_no_row stated number = ⊎_elim (λ same. yes (inl same))
    (λ some. ⊎_elim (λ less. yes (inr less)) (λ more. no (λ is. ⊎_elim some (λ less. omega (arith, less, more)) is)) (cases_lt (length stated.rows) number))
    (cases_eq number 0)

-- ---- the first cell outside its limit

module _ (limits : Limiting Value) where
  abbrev Within : At Value → Type 0
  Within at = IsWithin value_meaning at.value (cell_limit limits at.address)

  -- each cell is within its limit, or one of the others is the first outside
  abbrev HasLeast : List (At Value) → Type 0
  HasLeast cells = AreCellsWithin limits cells ⊎ ((address : ℕ) × IsLeastOutside limits cells address)

  first_is : (at : At Value) (cells : List (At Value)) → ¬ Within at → All (λ other. other.address < at.address → Within other) cells
      → IsLeastOutside limits (at ∷ cells) at.address
  first_is at cells not all = record {
    position = zero;
    inside = omega arith;
    here = λ d. refl;
    outside = λ d. not;
    least = All-cons (λ other. other.address < at.address → Within other) at cells (λ less. absurd (omega (arith, less))) all;
  }

  later_is : (at : At Value) (cells : List (At Value)) (address : ℕ) → IsLeastOutside limits cells address → (at.address < address → Within at)
      → IsLeastOutside limits (at ∷ cells) address
  later_is at cells address is own = record {
    position = suc is.position;
    inside = omega (arith, is.inside);
    here = λ d. is.here d;
    outside = λ d. is.outside d;
    least = All-cons (λ other. other.address < address → Within other) at cells own is.least;
  }

  weaker : (cells : List (At Value)) (one other : ℕ) → one ≤ other → All (λ at. at.address < other → Within at) cells → All (λ at. at.address < one → Within at) cells
  weaker cells one other less all = λ i d inside below. all i d inside (omega (arith, less, below))

  beside : (at : At Value) (cells : List (At Value)) → Dec (Within at) → HasLeast cells → HasLeast (at ∷ cells)
  beside at cells (yes is) (inl all) = inl (All-cons Within at cells is all)
  beside at cells (yes is) (inr (address, least)) = inr (address, later_is at cells address least (λ less. is))
  beside at cells (no not) (inl all) = inr (at.address, first_is at cells not (λ i d inside below. all i d inside))
  beside at cells (no not) (inr (address, least)) = ⊎_elim
      (λ less. inr (address, later_is at cells address least (λ below. absurd (omega (arith, less, below)))))
      (λ more. inr (at.address, first_is at cells not (weaker cells at.address address more least.least)))
      (cases_lt address at.address)

  some_least : (cells : List (At Value)) → HasLeast cells
  some_least [] = inl (All-nil Within)
  some_least (at ∷ cells) = beside at cells (is_within at.value (cell_limit limits at.address)) (some_least cells)

  -- one that is outside isn't among those that are all within
  none_outside : (cells : List (At Value)) (address : ℕ) → AreCellsWithin limits cells → IsLeastOutside limits cells address → ⊥
  none_outside cells address all is =
      is.outside nothing
      (subst (λ (n : ℕ). IsWithin value_meaning (get_or cells is.position nothing).value (cell_limit limits n)) (is.here nothing)
      (all is.position nothing is.inside))
    where
      nothing : At Value
      nothing = record { address = 0; value = limits.every }

  not_less : (cells : List (At Value)) (one other : ℕ) → IsLeastOutside limits cells one → IsLeastOutside limits cells other → one < other → ⊥
  not_less cells one other is least less =
      is.outside nothing
      (subst (λ (n : ℕ). IsWithin value_meaning (get_or cells is.position nothing).value (cell_limit limits n)) (is.here nothing)
      (least.least is.position nothing is.inside (subst (λ (n : ℕ). n < other) (sym (is.here nothing)) less)))
    where
      nothing : At Value
      nothing = record { address = 0; value = limits.every }

  least_one : (cells : List (At Value)) (one other : ℕ) → IsLeastOutside limits cells one → IsLeastOutside limits cells other → one ≡ other
  least_one cells one other p r = ⊎_elim
      (λ less. absurd (not_less cells one other p r less))
      (λ more. ⊎_elim (λ less. absurd (not_less cells other one r p less)) (λ most. omega (arith, more, most)) (cases_lt other one))
      (cases_lt one other)

-- ---- an edit has an outcome

-- what comes of an edit, and what stands then
abbrev HasOutcome : Judging → Edit → Type 0
HasOutcome old e = (outcome : Result Unit EditError) × (new : Judging) × IsEdited old e outcome new × (new.machine ≡ old.machine) × (IsImage old.image → IsImage new.image)

abbrev with_cert : Judging → Stated → Judging
with_cert old cert = record old { cert = cert }

limit_outcome : (old : Judging) (cell : At Value) → Dec (IsUseWithin old.cert cell.address cell.value) → HasOutcome old (edit.Limit cell)
limit_outcome old cell (yes is) =
    (Ok tt, with_cert old (with_limit old.cert cell.address cell.value), ((is, refl), refl), refl, λ image. image)
limit_outcome old cell (no not) = (Err BelowUse, old, ((not, refl), refl), refl, λ image. image)

room_outcome : (old : Judging) (number : ℕ) (row : Row Value) → ¬ IsNoRow old.cert number → AreCellsWithin old.cert.limits row.at
    → HasOutcome old (edit.Row number row)
room_outcome old number row there within = ⊎_elim
    (λ less. (Ok tt, with_cert old (with_row old.cert number row), ((there, within, less, refl), refl), refl, λ image. image))
    (λ full. (Err FullLocation, old, ((there, within, full, refl), refl), refl, λ image. image))
    (cases_lt (others_at old.cert.rows number row.location) most_rows_at_one)

cells_outcome : (old : Judging) (number : ℕ) (row : Row Value) → ¬ IsNoRow old.cert number → HasLeast old.cert.limits row.at → HasOutcome old (edit.Row number row)
cells_outcome old number row there (inl within) = room_outcome old number row there within
cells_outcome old number row there (inr (address, least)) = (Err (OutsideGlobal address), old, ((there, least, refl), refl), refl, λ image. image)

row_outcome : (old : Judging) (number : ℕ) (row : Row Value) → Dec (IsNoRow old.cert number) → HasOutcome old (edit.Row number row)
row_outcome old number row (yes none) = (Err NoRow, old, ((none, refl), refl), refl, λ image. image)
row_outcome old number row (no there) = cells_outcome old number row there (some_least old.cert.limits row.at)

some_outcome : (old : Judging) (e : Edit) → IsLawful e → HasOutcome old e
some_outcome old (edit.Word location word) lawful =
    (Ok tt, record old { image = with_word old.image location word }, refl, refl, λ image. IsImage-with_word old.image location word image lawful.1)
some_outcome old (edit.Limit cell) lawful = limit_outcome old cell (is_use_within old.cert cell.address cell.value)
some_outcome old (edit.Row number row) lawful = row_outcome old number row (is_no_row old.cert number)

-- ---- and one alone

same_cert : (old one other : Judging) → one ≡ with_cert old one.cert → other ≡ with_cert old other.cert → one.cert ≡ other.cert → one ≡ other
same_cert old one other p r same = p ∙ ap (λ (c : Stated). with_cert old c) same ∙ sym r

abbrev AreOne : (one other : Result Unit EditError) (left right : Judging) → Type 0
AreOne one other left right = (one ≡ other) × (left ≡ right)

limit_one : (old : Judging) (cell : At Value) (one other : Result Unit EditError) (left right : Judging)
    → IsEdited old (edit.Limit cell) one left → IsEdited old (edit.Limit cell) other right → AreOne one other left right
limit_one old cell (Ok done) (Ok also) left right p r = (refl, same_cert old left right p.1 r.1 (p.0.1 ∙ sym r.0.1))
limit_one old cell (Ok done) (Err BelowUse) left right p r = absurd (r.0.0 p.0.0)
limit_one old cell (Err BelowUse) (Ok done) left right p r = absurd (p.0.0 r.0.0)
limit_one old cell (Err BelowUse) (Err BelowUse) left right p r = (refl, same_cert old left right p.1 r.1 (p.0.1 ∙ sym r.0.1))
limit_one old cell (Err NoRow) other left right p r = absurd p.0
limit_one old cell (Err (OutsideGlobal address)) other left right p r = absurd p.0
limit_one old cell (Err FullLocation) other left right p r = absurd p.0
limit_one old cell (Ok done) (Err NoRow) left right p r = absurd r.0
limit_one old cell (Ok done) (Err (OutsideGlobal address)) left right p r = absurd r.0
limit_one old cell (Ok done) (Err FullLocation) left right p r = absurd r.0
limit_one old cell (Err BelowUse) (Err NoRow) left right p r = absurd r.0
limit_one old cell (Err BelowUse) (Err (OutsideGlobal address)) left right p r = absurd r.0
limit_one old cell (Err BelowUse) (Err FullLocation) left right p r = absurd r.0

not_under : (count : ℕ) → count < most_rows_at_one → most_rows_at_one ≤ count → ⊥
not_under count less more = omega (arith, less, more)

row_one : (old : Judging) (number : ℕ) (row : Row Value) (one other : Result Unit EditError) (left right : Judging)
    → IsEdited old (edit.Row number row) one left → IsEdited old (edit.Row number row) other right → AreOne one other left right
row_one old number row (Ok done) (Ok also) left right p r = (refl, same_cert old left right p.1 r.1 (p.0.3 ∙ sym r.0.3))
row_one old number row (Ok done) (Err NoRow) left right p r = absurd (p.0.0 r.0.0)
row_one old number row (Ok done) (Err (OutsideGlobal address)) left right p r = absurd (none_outside old.cert.limits row.at address p.0.1 r.0.1)
row_one old number row (Ok done) (Err BelowUse) left right p r = absurd r.0
row_one old number row (Ok done) (Err FullLocation) left right p r = absurd (not_under (others_at old.cert.rows number row.location) p.0.2 r.0.2)
row_one old number row (Err NoRow) (Ok done) left right p r = absurd (r.0.0 p.0.0)
row_one old number row (Err NoRow) (Err NoRow) left right p r = (refl, same_cert old left right p.1 r.1 (p.0.1 ∙ sym r.0.1))
row_one old number row (Err NoRow) (Err (OutsideGlobal address)) left right p r = absurd (r.0.0 p.0.0)
row_one old number row (Err NoRow) (Err BelowUse) left right p r = absurd r.0
row_one old number row (Err NoRow) (Err FullLocation) left right p r = absurd (r.0.0 p.0.0)
row_one old number row (Err (OutsideGlobal address)) (Ok done) left right p r = absurd (none_outside old.cert.limits row.at address r.0.1 p.0.1)
row_one old number row (Err (OutsideGlobal address)) (Err NoRow) left right p r = absurd (p.0.0 r.0.0)
row_one old number row (Err (OutsideGlobal address)) (Err (OutsideGlobal further)) left right p r =
    (ap (λ (n : ℕ). Err (OutsideGlobal n)) (least_one old.cert.limits row.at address further p.0.1 r.0.1), same_cert old left right p.1 r.1 (p.0.2 ∙ sym r.0.2))
row_one old number row (Err (OutsideGlobal address)) (Err BelowUse) left right p r = absurd r.0
row_one old number row (Err (OutsideGlobal address)) (Err FullLocation) left right p r = absurd (none_outside old.cert.limits row.at address r.0.1 p.0.1)
row_one old number row (Err BelowUse) other left right p r = absurd p.0
row_one old number row (Err FullLocation) (Ok done) left right p r = absurd (not_under (others_at old.cert.rows number row.location) r.0.2 p.0.2)
row_one old number row (Err FullLocation) (Err NoRow) left right p r = absurd (p.0.0 r.0.0)
row_one old number row (Err FullLocation) (Err (OutsideGlobal address)) left right p r = absurd (none_outside old.cert.limits row.at address p.0.1 r.0.1)
row_one old number row (Err FullLocation) (Err BelowUse) left right p r = absurd r.0
row_one old number row (Err FullLocation) (Err FullLocation) left right p r = (refl, same_cert old left right p.1 r.1 (p.0.3 ∙ sym r.0.3))

outcome_one : (old : Judging) (e : Edit) (one other : Result Unit EditError) (left right : Judging) → IsEdited old e one left → IsEdited old e other right
    → AreOne one other left right
outcome_one old (edit.Word location word) (Ok done) (Ok also) left right p r = (refl, p ∙ sym r)
outcome_one old (edit.Word location word) (Err error) other left right p r = absurd p
outcome_one old (edit.Word location word) (Ok done) (Err error) left right p r = absurd r
outcome_one old (edit.Limit cell) one other left right p r = limit_one old cell one other left right p r
outcome_one old (edit.Row number row) one other left right p r = row_one old number row one other left right p r

-- ---- something is told of it

abbrev HasTold : Judging → Edit → Type 0
HasTold old e = (told : Told) × (new : Judging) × IsTold old e told new × IsMachine new.machine × IsImage new.image

told_of : (old : Judging) (e : Edit) → IsMachine old.machine → IsImage old.image → HasOutcome old e → HasTold old e
told_of old e machine image (Ok done, new, is, same, stays) =
    let machine_is : IsMachine new.machine = subst IsMachine (sym same) machine in
    let verdict = some_verdict new.machine new.image (certificate_of new.cert) machine_is (stays image) in
    (Made verdict.0, new, (is, verdict.1), machine_is, stays image)
told_of old e machine image (Err error, new, is, same, stays) = (NotMade error, new, is, subst IsMachine (sym same) machine, stays image)

pub some_told : (old : Judging) (edits : List Edit) → IsMachine old.machine → IsImage old.image → All IsLawful edits
    → (told : List Told) × (new : Judging) × AreTold old edits told new
some_told old [] machine image lawful = ([], old, refl)
some_told old (e ∷ edits) machine image lawful =
    let first = told_of old e machine image (some_outcome old e (All-head IsLawful e edits lawful)) in
    let rest = some_told first.1 edits first.3 first.4 (All-tail IsLawful e edits lawful) in
    (first.0 ∷ rest.0, rest.1, (first.1, first.2, rest.2))

-- ---- and one thing alone

made_one : (left right : Verdict Value) → left ≡ right → Made left ≡ Made right
made_one left right same = ap (λ (v : Verdict Value). Made v) same

clash : (error : EditError) → ◌≡◌ {A = Result Unit EditError} (Ok tt) (Err error) → ⊥
clash error same = cc

err_one : (left right : EditError) → ◌≡◌ {A = Result Unit EditError} (Err left) (Err right) → left ≡ right
err_one left right same = cc

one_edit_told : (old : Judging) (e : Edit) (one other : Told) (left right : Judging) → IsMachine old.machine → (left.machine ≡ old.machine)
    → IsTold old e one left → IsTold old e other right → (one ≡ other) × (left ≡ right)
one_edit_told old e (Made verdict) (Made further) left right machine stays p r =
    let same = (outcome_one old e (Ok tt) (Ok tt) left right p.0 r.0).1 in
    let there : IsVerdict value_meaning left.machine left.image (certificate_of left.cert) further =
    subst (λ (j : Judging). IsVerdict value_meaning j.machine j.image (certificate_of j.cert) further) (sym same) r.1 in (
      made_one verdict further (verdict_one value_meaning left.machine left.image (certificate_of left.cert) value_lawful (subst IsMachine (sym stays) machine)
          verdict further p.1 there),
      same,
    )
one_edit_told old e (Made verdict) (NotMade error) left right machine stays p r =
    absurd (clash error (outcome_one old e (Ok tt) (Err error) left right p.0 r).0)
one_edit_told old e (NotMade error) (Made verdict) left right machine stays p r =
    absurd (clash error (sym (outcome_one old e (Err error) (Ok tt) left right p r.0).0))
one_edit_told old e (NotMade error) (NotMade further) left right machine stays p r =
    let both = outcome_one old e (Err error) (Err further) left right p r in
    (ap (λ (told : EditError). NotMade told) (err_one error further both.0), both.1)

pub told_stays : (old new : Judging) (e : Edit) (told : Told) → IsTold old e told new → new.machine ≡ old.machine
told_stays old new e (Made verdict) is = one_stays old new e (Ok tt) is.0
told_stays old new e (NotMade error) is = one_stays old new e (Err error) is

pub one_told : (old : Judging) (edits : List Edit) (one other : List Told) (left right : Judging) → IsMachine old.machine
    → AreTold old edits one left → AreTold old edits other right → (one ≡ other) × (left ≡ right)
one_told old [] [] [] left right machine p r = (refl, p ∙ sym r)
one_told old [] (told ∷ more) other left right machine p r = absurd p
one_told old [] [] (told ∷ more) left right machine p r = absurd r
one_told old (e ∷ edits) [] other left right machine p r = absurd p
one_told old (e ∷ edits) (told ∷ more) [] left right machine p r = absurd r
one_told old (e ∷ edits) (told ∷ more) (again ∷ others) left right machine p r =
    let stays = told_stays old p.0 e told p.1 in
    let first = one_edit_told old e told again p.0 r.0 machine stays p.1 r.1 in
    let rest = one_told p.0 edits more others left right (subst IsMachine (sym stays) machine) p.2
    (subst (λ (j : Judging). AreTold j edits others right) (sym first.1) r.2) in
    (both first.0 rest.0, rest.1)
  where
    both : told ≡ again → more ≡ others → (told ∷ more) ≡ (again ∷ others)
    both same rest = cc

-- ---- what stays

with_word_stays : (old new : Judging) (location word : ℕ) → IsLawful (edit.Word location word) → IsImage old.image
    → new ≡ record old { image = with_word old.image location word } → IsImage new.image
with_word_stays old new location word lawful image is =
    subst IsImage (sym (ap (λ (j : Judging). j.image) is)) (IsImage-with_word old.image location word image lawful.1)

edited_image : (old new : Judging) (e : Edit) (outcome : Result Unit EditError) → IsLawful e → IsImage old.image → IsEdited old e outcome new → IsImage new.image
edited_image old new (edit.Word location word) (Ok done) lawful image is = with_word_stays old new location word lawful image is
edited_image old new (edit.Word location word) (Err error) lawful image is = absurd is
edited_image old new (edit.Limit cell) outcome lawful image is = subst IsImage (sym (ap (λ (j : Judging). j.image) is.1)) image
edited_image old new (edit.Row number row) outcome lawful image is = subst IsImage (sym (ap (λ (j : Judging). j.image) is.1)) image

-- an edit of the memory leaves an image
pub image_stays : (old new : Judging) (e : Edit) (told : Told) → IsLawful e → IsImage old.image → IsTold old e told new → IsImage new.image
image_stays old new e (Made verdict) lawful image is = edited_image old new e (Ok tt) lawful image is.0
image_stays old new e (NotMade error) lawful image is = edited_image old new e (Err error) lawful image is
