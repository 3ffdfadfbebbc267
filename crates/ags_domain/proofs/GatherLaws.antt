-- One more word among those that are gathered, and when they are all or too many.
use Rattle.std.proofs.Common.{◌≡◌, ℕ, ◌+◌, ◌<◌, ◌^◌, Bool, true, false, refl, sym, ◌∙◌, subst, ⊎_elim, arith, List, [], ◌∷◌, ◌++◌, length, append_assoc, length-append}
use Rattle.std.specs.Prelude.{◌||◌, eqb, Some, None}
use Rattle.std.proofs.lemmas.Bool.{cases_lt}
use Rattle.std.proofs.lemmas.Bool.Decides.{nat_tests}
use Rattle.std.proofs.lemmas.List.{append-nil}
use Rattle.ags_domain.specs.WordSet.{ascends_from, lists, HoldsMore}
use Rattle.ags_domain.specs.SetOf.{IsNext}
use Rattle.ags_domain.specs.Gathering.{AreSoFar}
use Rattle.ags_domain.specs.ListLaws.{ascends_cons, lists_append}

differ : (a b : ℕ) → a < b → eqb b a ≡ false
differ a b h = grind (arith, nat_tests)

differ' : (a b : ℕ) → a < b → eqb a b ≡ false
differ' a b h = grind (arith, nat_tests)

equal : (a : ℕ) → eqb a a ≡ true
equal a = grind (arith, nat_tests)

or_false : (b : Bool) → (b || false) ≡ b
or_false true = refl
or_false false = refl

or_true : (b : Bool) → (b || true) ≡ true
or_true true = refl
or_true false = refl

module _ (held : ℕ → Bool) (list : List ℕ) (from : ℕ) (so_far : AreSoFar held list from) where
  pub more_so_far : (w : ℕ) → IsNext held from (Some w) → AreSoFar held (list ++ w ∷ []) (w + 1)
  more_so_far w next =
      let word = next.0 in
      let later = next.2 in
      record {
        bound = omega arith;
        goes_on = λ tail h. subst (λ ws. ascends_from 0 ws ≡ true) (sym (append_assoc list (w ∷ []) tail)) (so_far.goes_on (w ∷ tail) (ascends_cons from w tail later word h));
        members = λ v h. ⊎_elim
            (λ below. so_far.members v below ∙ sym (lists_append list w v ∙ rw (differ v w (omega arith)) (or_false (lists list v))))
            (λ above. ⊎_elim
            (λ before. next.3 v above before ∙ sym (lists_append list w v ∙ rw (so_far.none_later v above, differ v w before) refl))
            (λ at. let same : v ≡ w = omega arith in
            subst (λ u. held u ≡ lists (list ++ w ∷ []) u) (sym same) (next.1 ∙ sym (lists_append list w w ∙ rw (equal w) (or_true (lists list w)))))
            (cases_lt v w))
            (cases_lt v from);
        none_later = λ v h. lists_append list w v ∙ rw (so_far.none_later v (omega arith), differ' w v (omega arith)) refl;
      }

  pub once_so_far : ascends_from 0 list ≡ true
  once_so_far = subst (λ ws. ascends_from 0 ws ≡ true) (append-nil list) (so_far.goes_on [] refl)

  pub held_so_far : (v : ℕ) → lists list v ≡ true → held v ≡ true
  held_so_far v h = ⊎_elim
      (λ below. so_far.members v below ∙ h)
      (λ above. absurd (let none = so_far.none_later v above in cc))
      (cases_lt v from)

  pub all_so_far : IsNext held from None → (v : ℕ) → v < 2 ^ 18 → held v ≡ lists list v
  all_so_far none v is = ⊎_elim
      (λ below. so_far.members v below)
      (λ above. none v is above ∙ sym (so_far.none_later v above))
      (cases_lt v from)

some_listed : (words : List ℕ) (v : ℕ) → lists words v ≡ true → 0 < length words
some_listed [] v h = absurd cc
some_listed (w ∷ ws) v h = omega arith

module _ (held : ℕ → Bool) (list : List ℕ) (from : ℕ) (so_far : AreSoFar held list from) where
  pub some_so_far : IsNext held from None → (v : ℕ) → v < 2 ^ 18 → held v ≡ true → 0 < length list
  some_so_far none v is h = some_listed list v (sym (all_so_far held list from so_far none v is) ∙ h)

  pub too_many : (w : ℕ) → IsNext held from (Some w) → length list ≡ 16 → HoldsMore 16 held
  too_many w next full =
      let more = more_so_far held list from so_far w next in
      let longer = length-append list (w ∷ []) in
      record {
        words = list ++ w ∷ [];
        once = once_so_far held (list ++ w ∷ []) (w + 1) more;
        are_held = held_so_far held (list ++ w ∷ []) (w + 1) more;
        more = omega arith;
      }
