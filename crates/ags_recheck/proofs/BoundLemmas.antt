-- There is a bound on the steps of each edit of a row: what is kept of the rows tells which of them have a post at a location.
use Rattle.std.proofs.Common.{◌≡◌, ℕ, suc, ◌+◌, ◌-◌, ◌<◌, ◌⊎◌, Bool, true, false, refl, sym, subst, ◌∙◌, arith, List, [], ◌∷◌, length, get_or, inl, inr}
use Rattle.std.specs.Prelude.{Option}
use Rattle.ags_domain.specs.Value.{value_meaning}
use Rattle.ags_domain.specs.declared.values.Value.{Value}
use Rattle.ags_domain.specs.declared.word_sets.WordSet.{WordSet}
use Rattle.ags_ports.specs.declared.machines.Machine.{Machine}
use Rattle.ags_row.specs.declared.rows.Row.{Row}
use Rattle.ags_safe.specs.Case.{IsCode}
use Rattle.ags_verdict.specs.Locality.{HasPostAt}
use Rattle.ags_verdict.specs.Counting.{HasCases, number_with}
use Rattle.ags_certtype.specs.Cert.{Stated}
use Rattle.ags_certtype.specs.Edit.{with_row}
use Rattle.ags_recheck.specs.Bound.{HaveCasesAt, IsMostOfRow}
use Rattle.ags_recheck.specs.Locations.{has_location}
use Rattle.ags_recheck.specs.Kept.{IsItemKept, IsBook}
use Rattle.ags_recheck.specs.declared.items.Item.{Item}
use Rattle.ags_recheck.proofs.EditLemmas.{true_false}
use Rattle.ags_recheck.proofs.KeepingLemmas.{some_at}

module _ (machine : Machine) (image : List (Option ℕ)) (stated : Stated) (items : List Item) (book : IsBook machine image stated items)
    (each : (row : Row Value) → (code : Option WordSet) × IsCode value_meaning image stated.limits row code) where
  cases_of : (row : Row Value) → (n : ℕ) × HasCases value_meaning image stated.limits row n
  cases_of row = let code = each row in (number_with value_meaning image stated.limits row code.0, (code.0, code.1, refl))

  -- whether a post of a row goes to a location
  abbrev Decided : Row Value → ℕ → Type 0
  Decided row location = HasPostAt value_meaning machine image stated.limits row location
      ⊎ (¬ HasPostAt value_meaning machine image stated.limits row location)

  by_flag : (row : Row Value) (item : Item) → IsItemKept machine image stated row item → (location : ℕ) (b : Bool) → has_location item.locations location ≡ b
      → Decided row location
  by_flag row item kept location true is = inl ((kept.noted location).0 is)
  by_flag row item kept location false is = inr (λ has. true_false (sym ((kept.noted location).1 has) ∙ is))

  decided : (i : ℕ) (row : Row Value) → i < length stated.rows → get_or stated.rows i row ≡ row → (location : ℕ) → Decided row location
  decided i row inside is location =
      let item = some_at items i (subst (λ (n : ℕ). i < n) (sym book.whole) inside) in
      by_flag row item.0 (book.kept i row item.0 inside is item.1) location (has_location item.0.locations location) refl

  module _ (one other : ℕ) where
    abbrev HaveAt : List (Row Value) → ℕ → Type 0
    HaveAt = HaveCasesAt machine image stated.limits one other

    -- one row more
    add_row : (row : Row Value) (rows : List (Row Value)) (own rest : ℕ) → HasCases value_meaning image stated.limits row own → HaveAt rows rest
        → Decided row one → Decided row other → (n : ℕ) × HaveAt (row ∷ rows) n
    add_row row rows own rest has have (inl is) either = (own + rest, (rest, have, inl (inl is, own, has, refl)))
    add_row row rows own rest has have (inr none) (inl is) = (own + rest, (rest, have, inl (inr is, own, has, refl)))
    add_row row rows own rest has have (inr none) (inr neither) = (rest, (rest, have, inr (none, neither, refl)))

    some_number : (rows : List (Row Value)) → ((i : ℕ) (row : Row Value) → i < length rows → get_or rows i row ≡ row → (location : ℕ) → Decided row location)
        → (n : ℕ) × HaveAt rows n
    some_number [] decides = (0, refl)
    some_number (row ∷ rows) decides =
        let rest = some_number rows (λ i r inside is. decides (suc i) r (omega (arith, inside)) is) in
        let own = cases_of row in
        add_row row rows own.0 rest.0 own.1 rest.1 (decides 0 row (omega arith) refl one) (decides 0 row (omega arith) refl other)

  -- where a row is replaced
  pub some_most : (number : ℕ) (row : Row Value) (after : Stated) → after ≡ with_row stated number row
      → (most : ℕ) × IsMostOfRow (record { machine = machine; image = image; cert = stated }) (record { machine = machine; image = image; cert = after }) number row most
  some_most number row after is =
      let own = cases_of row in
      let others = some_number (get_or stated.rows (number - 1) row).location row.location stated.rows decided in (
        own.0 + others.0,
        record {
          own = own.0;
          has_own = subst (λ (s : Stated). HasCases value_meaning image s.limits row own.0) (sym is) own.1;
          others = others.0;
          have_others = others.1;
          most_is = refl;
        },
      )
