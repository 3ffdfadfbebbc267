-- Each row has a code, or its words are too many. Behind the law of the same name is
--     some_code    the code of a row
use Rattle.std.proofs.Common.{◌≡◌, ℕ, zero, suc, ◌+◌, ◌-◌, ◌<◌, ◌≤◌, ◌^◌, Bool, true, false, refl, sym, ap, subst, ◌∙◌, ⊎_elim, arith, List, [], ◌∷◌, ◌++◌, length, length-append}
use Rattle.std.specs.Prelude.{Option, Some, None}
use Rattle.std.proofs.lemmas.Bool.{cases_eq}
use Rattle.ags_image.specs.Image.{IsImage, word_at}
use Rattle.ags_domain.specs.WordSet.{lists}
use Rattle.ags_domain.specs.Domain.{AreFew}
use Rattle.ags_domain.specs.SetOf.{IsNext}
use Rattle.ags_domain.specs.Gathering.{AreGathered, AreSoFar}
use Rattle.ags_domain.specs.Value.{value_meaning, value_held, value_ends}
use Rattle.ags_domain.specs.MeaningLaws.{value_lawful}
use Rattle.ags_domain.specs.declared.word_sets.WordSet.{WordSet}
use Rattle.ags_domain.specs.declared.values.Value.{Value}
use Rattle.ags_domain.proofs.GatherLaws.{more_so_far, once_so_far, all_so_far, some_so_far, too_many}
use Rattle.ags_row.specs.Limit.{Limiting}
use Rattle.ags_row.specs.Cover.{cell_value}
use Rattle.ags_row.specs.declared.rows.Row.{Row}
use Rattle.ags_safe.specs.Case.{IsCode, is_erasable}
use Rattle.ags_check.proofs.RangeLemmas.{some_set}
use Rattle.ags_check.proofs.ToldLemmas.{set_of_one}

-- ---- the held words, one by one

module _ (held : ℕ → Bool) where
  abbrev HasNext : ℕ → Type 0
  HasNext from = (next : Option ℕ) × IsNext held from next

  module _ (from : ℕ) where
    behind : (v : ℕ) → held from ≡ false → from ≤ v → (from + 1 ≤ v → held v ≡ false) → held v ≡ false
    behind v out above later = ⊎_elim
        (λ same. subst (λ (u : ℕ). held u ≡ false) (sym same) out) (λ apart. later (omega (arith, apart))) (cases_eq v from)

    passed : held from ≡ false → HasNext (from + 1) → HasNext from
    passed out (Some w, is) =
        (Some w, (is.0, is.1, omega (arith, is.2), λ v above before. behind v out above (λ later. is.3 v later before)))
    passed out (None, is) = (None, λ v below above. behind v out above (λ later. is v below later))

    next_by : (b : Bool) → held from ≡ b → from < 2 ^ 18 → HasNext (from + 1) → HasNext from
    next_by true is below later = (Some from, (below, is, omega arith, λ v above before. absurd (omega arith)))
    next_by false is below later = passed is later

  next_from : (count from : ℕ) → from + count ≡ 2 ^ 18 → HasNext from
  next_from zero from all = (None, λ v below above. absurd (omega arith))
  next_from (suc count) from all = next_by from (held from) refl (omega arith) (next_from count (from + 1) (omega arith))

  abbrev HasGathered : Type 0
  HasGathered = (set : Option WordSet) × AreGathered held set

  module _ (word : ℕ) (word_is : word < 2 ^ 18) (word_held : held word ≡ true) where
    all_gathered : (list : List ℕ) (from : ℕ) → AreSoFar held list from → length list ≤ 16 → IsNext held from None → HasGathered
    all_gathered list from so_far few none =
        let set = some_set list (once_so_far held list from so_far) (some_so_far held list from so_far none word word_is word_held) few in
        (Some set.0, λ w is. all_so_far held list from so_far none w is ∙ ap (λ ws. lists ws w) (sym set.1))

    gathered_from : (left : ℕ) (list : List ℕ) (from : ℕ) → AreSoFar held list from → length list + left ≡ 16
        → (next : Option ℕ) → IsNext held from next → HasGathered
    gathered_from left list from so_far count None none = all_gathered list from so_far (omega arith) none
    gathered_from zero list from so_far count (Some w) is = (None, too_many held list from so_far w is (omega arith))
    gathered_from (suc left) list from so_far count (Some w) is =
        let below = is.0 in
        let longer = length-append list (w ∷ []) in
        let next = next_from (2 ^ 18 - (w + 1)) (w + 1) (omega arith) in
        gathered_from left (list ++ w ∷ []) (w + 1) (more_so_far held list from so_far w is) (omega arith) next.0 next.1

    gathered : HasGathered
    gathered =
        let next = next_from (2 ^ 18) 0 (omega arith) in
        gathered_from 16 [] 0 (record { bound = omega arith; goes_on = λ tail h. h; members = λ v h. absurd (omega arith); none_later = λ v h. refl })
        (omega arith) next.0 next.1

few_of : (d : Value) → (set : Option WordSet) × AreGathered (value_held d) set → (set : Option WordSet) × AreFew value_meaning d set
few_of d (Some set, is) = (Some set, is)
few_of d (None, is) = (None, is)

few : (d : Value) → (set : Option WordSet) × AreFew value_meaning d set
few d = few_of d (gathered (value_held d) (value_ends d).least (value_lawful.least_word d) (value_lawful.least_held d))

-- ---- the code

module _ (image : List (Option ℕ)) (limits : Limiting Value) (row : Row Value) (is_image : IsImage image) where
  erasable_code : is_erasable row.location ≡ true → (set : Option WordSet) × AreFew value_meaning (cell_value row limits row.location) set
      → (code : Option WordSet) × IsCode value_meaning image limits row code
  erasable_code is (Some set, are) = (Some set, rw is are)
  erasable_code is (None, more) = (None, (is, more))

  code_at : (b : Bool) → is_erasable row.location ≡ b → (code : Option WordSet) × IsCode value_meaning image limits row code
  code_at true is = erasable_code is (few (cell_value row limits row.location))
  code_at false is = let set = set_of_one (word_at image row.location) (is_image.words row.location) in (Some set.0, rw is set.1)

  pub some_code : (code : Option WordSet) × IsCode value_meaning image limits row code
  some_code = code_at (is_erasable row.location) refl
