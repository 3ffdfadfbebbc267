-- A row in place of another: which rows that concerns.
use Rattle.std.proofs.Common.{◌≡◌, ◌≢◌, ℕ, ◌<◌, ◌⊎◌, Bool, true, false, refl, sym, ap, subst, ◌∙◌, ⊎_elim, List, length, get_or, set, inl, inr}
use Rattle.std.specs.Prelude.{◌==◌, Option, Result}
use Rattle.std.proofs.lemmas.Bool.{eqb-true, eq-eqb}
use Rattle.std.proofs.lemmas.List.{get_or-set_same, get_or-set_other, length-set, get_or_default}
use Rattle.ags_domain.specs.Value.{value_meaning}
use Rattle.ags_domain.specs.declared.values.Value.{Value}
use Rattle.ags_ports.specs.declared.machines.Machine.{Machine}
use Rattle.ags_row.specs.declared.rows.Row.{Row}
use Rattle.ags_verdict.specs.Locality.{IsAmong, DifferAtAlone}
use Rattle.ags_verdict.specs.declared.verdicts.RowFault.{RowFault}
use Rattle.ags_verdict.proofs.LocalityLemmas.{judged_alike}
use Rattle.ags_certtype.specs.Cert.{Stated, certificate_of}
use Rattle.ags_recheck.specs.Locations.{has_location}
use Rattle.ags_recheck.specs.Kept.{IsRowKept}

pub true_false : true ≡ false → ⊥
true_false h = cc

pub apart_of : (a b : ℕ) → (a == b) ≡ false → a ≢ b
apart_of a b other same = true_false (sym (eq-eqb a b same) ∙ other)

module _ {D : Type 0} (rows : List (Row D)) (position : ℕ) (old new : Row D) (inside : position < length rows) (stands : get_or rows position old ≡ old) where
  -- the row at the position, whatever stands for one that isn't there
  at_position : (d : Row D) → get_or rows position d ≡ d → d ≡ old
  at_position d is = sym is ∙ (get_or_default rows position d old inside ∙ stands)

  -- one of the two locations
  abbrev pub At : ℕ → Type 0
  At location = (location ≡ old.location) ⊎ (location ≡ new.location)

  forth : (row : Row D) → ¬ At row.location → IsAmong rows row → IsAmong (set rows position new) row
  forth row apart among =
      let other : among.0 ≢ position = λ same.
      apart (inl (ap (λ (r : Row D). r.location) (at_position row (subst (λ (n : ℕ). get_or rows n row ≡ row) same among.2)))) in
      (among.0, subst (λ (n : ℕ). among.0 < n) (sym (length-set rows position new)) among.1, get_or-set_other rows position among.0 new row other ∙ among.2)

  back_at : (row : Row D) (at : ℕ) (same : Bool) → (at == position) ≡ same → ¬ At row.location → at < length (set rows position new)
      → get_or (set rows position new) at row ≡ row → IsAmong rows row
  back_at row at true same apart below is =
      let here : at ≡ position = eqb-true at position same in
      let read : row ≡ new = sym is ∙ ap (λ (n : ℕ). get_or (set rows position new) n row) here ∙ get_or-set_same rows position new row inside in
      absurd (apart (inr (ap (λ (r : Row D). r.location) read)))
  back_at row at false other apart below is =
      let differs : at ≢ position = apart_of at position other in
      (at, subst (λ (n : ℕ). at < n) (length-set rows position new) below, sym (get_or-set_other rows position at new row differs) ∙ is)

  pub differ : DifferAtAlone At rows (set rows position new)
  differ row apart = (forth row apart, λ among. back_at row among.0 (among.0 == position) refl apart among.1 among.2)

-- What is kept of a row stays where another row is replaced and no post of the row goes to the old or to the new location.
pub kept_local : (machine : Machine) (image : List (Option ℕ)) (stated : Stated) (position : ℕ) (old new row : Row Value)
    (outcome : Result ℕ (RowFault Value)) (locations : List ℕ) → position < length stated.rows → get_or stated.rows position old ≡ old
    → has_location locations old.location ≡ false → has_location locations new.location ≡ false
    → IsRowKept machine image stated row outcome locations
    → IsRowKept machine image (record stated { rows = set stated.rows position new }) row outcome locations
kept_local machine image stated position old new row outcome locations inside stands not_old not_new is = record {
  judged = judged_alike value_meaning machine image (certificate_of stated) (At stated.rows position old new inside stands) stated.rows
      (set stated.rows position new)
      (differ stated.rows position old new inside stands) row
      (λ location here goes.
      let noted : has_location locations location ≡ true = (is.noted location).1 goes in
      ⊎_elim
      (λ same. true_false (sym noted ∙ (ap (λ (n : ℕ). has_location locations n) same ∙ not_old)))
      (λ same. true_false (sym noted ∙ (ap (λ (n : ℕ). has_location locations n) same ∙ not_new)))
      here) outcome is.judged;
  noted = is.noted;
  few = is.few;
}
