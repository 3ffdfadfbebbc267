-- Parts of a range, joins of two, and the order of its words by number.
use Rattle.std.proofs.Common.{◌≡◌, ℕ, ◌-◌, ◌<◌, ◌≤◌, ◌^◌, Bool, true, false, refl, sym, ap, ◌∙◌, subst, arith, pos, negsuc, ℤ, ◌≤ℤ◌}
use Rattle.std.specs.Prelude.{not, ◌&&◌, ◌||◌, eqb, Option, Some, None, IfSome}
use Rattle.std.specs.Int.{int_max, int_min}
use Rattle.std.proofs.lemmas.Int.{ints}
use Rattle.std.proofs.lemmas.Bool.Decides.{nat_tests}
use Rattle.ags_word.specs.Word.{val, wrap}
use Rattle.ags_word.proofs.WordLaws.{val_same, val_least, val_most, val-wrap, fits_in}
use Rattle.ags_domain.specs.LowBits.{all_ones}
use Rattle.ags_domain.specs.Domain.{Meaning, IsAlone, IsFull, IsJoin, IsPart, IsWithin, is_negative, is_not_negative, has_value_between}
use Rattle.ags_domain.specs.Range.{range_ends, range_meaning, lies_between, ends_of, hull_of, IsRangeOf}
use Rattle.ags_domain.specs.SetOf.{IsNext}
use Rattle.ags_domain.specs.Gathering.{held_by_part}
use Rattle.ags_domain.specs.MeaningLaws.{lies_inside, lies_from, lies_to, least_lies, greatest_lies}
use Rattle.ags_domain.specs.declared.ranges.Range.{Range}

pub val_zero : val 0 ≡ pos 0
unfolding val
val_zero = refl

val_first : val (2 ^ 17) ≡ negsuc (2 ^ 17 - 1)
unfolding val
val_first = refl

val_last : val all_ones ≡ pos (2 ^ 17 - 1)
unfolding val
val_last = refl

bools_same : (a b : Bool) → (a ≡ true → b ≡ true) → (b ≡ true → a ≡ true) → a ≡ b
bools_same true b h k = sym (h refl)
bools_same false true h k = k refl
bools_same false false h k = refl

-- ---- one word, and all words

pub alone : (word : ℕ) → word < 2 ^ 18 → (range : Range) → range_ends range ≡ ends_of word word → IsAlone range_meaning word range
alone word is range ends_are = record {
  kept = refl;
  alone = λ w is_word. ap (λ ends. lies_between ends w) ends_are ∙ bools_same (lies_between (ends_of word word) w) (eqb word w) (only w is_word) (also w);
}
  where
    only : (w : ℕ) → w < 2 ^ 18 → lies_between (ends_of word word) w ≡ true → eqb word w ≡ true
    only w is_word h =
        let from = lies_from (ends_of word word) w h in
        let to = lies_to (ends_of word word) w h in
        let same : word ≡ w = val_same word w is is_word (omega (arith, ints)) in
        grind (arith, nat_tests)

    also : (w : ℕ) → eqb word w ≡ true → lies_between (ends_of word word) w ≡ true
    also w h =
        let same : word ≡ w = grind (arith, nat_tests) in
        lies_inside (ends_of word word) w (subst (λ v. val word ≤ℤ val v) same (omega (arith, ints))) (subst (λ v. val v ≤ℤ val word) same (omega (arith, ints)))

pub first_last : val (2 ^ 17) ≤ℤ val all_ones
first_last = let first = val_first in let last = val_last in omega (arith, ints)

pub full : (range : Range) → range_ends range ≡ ends_of (2 ^ 17) all_ones → IsFull range_meaning range
full range ends_are = record {
  kept = refl;
  every = λ w is. ap (λ ends. lies_between ends w) ends_are ∙ every w is;
}
  where
    every : (w : ℕ) → w < 2 ^ 18 → lies_between (ends_of (2 ^ 17) all_ones) w ≡ true
    every w is =
        let first = val_first in
        let last = val_last in
        let least = val_least w is in
        let most = val_most w is in
        lies_inside (ends_of (2 ^ 17) all_ones) w (omega (arith, ints)) (omega (arith, ints))

-- ---- parts

-- a part is one for each test that chooses the same words
pub part_as : {D : Type 0} (meaning : Meaning D) (p q : ℕ → Bool) → ((w : ℕ) → w < 2 ^ 18 → p w ≡ q w) → (d : D) (part : Option D)
    → IsPart meaning p d part → IsPart meaning q d part
part_as meaning p q same d (Some part) is = (is.0, λ w word. is.1 w word ∙ ap (λ (b : Bool). meaning.held d w && b) (same w word))
part_as meaning p q same d None is = λ w word held. sym (same w word) ∙ is w word held

-- so it is where the two numbers are given in another form
pub part_at : {D : Type 0} (meaning : Meaning D) {m n : ℤ} (least greatest : ℤ) → m ≡ least → n ≡ greatest → (d : D) (part : Option D)
    → IsPart meaning (has_value_between m n) d part → IsPart meaning (has_value_between least greatest) d part
part_at meaning {m} {n} least greatest p r d part =
    part_as meaning (has_value_between m n) (has_value_between least greatest)
    (λ w word. ap (λ (l : ℤ). has_value_between l n w) p ∙ ap (λ (g : ℤ). has_value_between least g w) r) d part

false_of : (b : Bool) → (b ≡ true → ⊥) → b ≡ false
false_of true h = absurd (h refl)
false_of false h = refl

-- the words of a range from one value to another are those between the greater least and the lesser greatest end
module _ (range : Range) (least greatest from to : ℤ) (up : from ≡ int_max least (val range.least)) (down : to ≡ int_min greatest (val range.greatest)) where
  above_least : least ≤ℤ from
  above_least = grind (arith, ints, up)

  above_range : val range.least ≤ℤ from
  above_range = grind (arith, ints, up)

  below_greatest : to ≤ℤ greatest
  below_greatest = grind (arith, ints, down)

  below_range : to ≤ℤ val range.greatest
  below_range = grind (arith, ints, down)

  from_least : (n : ℤ) → least ≤ℤ n → val range.least ≤ℤ n → from ≤ℤ n
  from_least n h k = grind (arith, ints, up)

  to_most : (n : ℤ) → n ≤ℤ greatest → n ≤ℤ val range.greatest → n ≤ℤ to
  to_most n h k = grind (arith, ints, down)

  chosen_lies : (w : ℕ) → from ≤ℤ val w → val w ≤ℤ to → (lies_between (range_ends range) w && has_value_between least greatest w) ≡ true
  chosen_lies w h k = grind (arith, ints, above_least, above_range, below_greatest, below_range)

  chosen_from : (w : ℕ) → (lies_between (range_ends range) w && has_value_between least greatest w) ≡ true → (from ≤ℤ val w) × (val w ≤ℤ to)
  chosen_from w h = (
    from_least (val w) (grind (arith, ints, h)) (grind (arith, ints, h)),
    to_most (val w) (grind (arith, ints, h)) (grind (arith, ints, h)),
  )

  pub part_between : (part : Option Range) → IsRangeOf from to part → IsPart range_meaning (has_value_between least greatest) range part
  part_between (Some part) is = (
    refl,
    λ w word.
        let low : val (wrap from) ≡ from = val-wrap from is.0 in
        let high : val (wrap to) ≡ to = val-wrap to is.1 in
        ap (λ ends. lies_between ends w) is.3 ∙ bools_same _ _
        (λ h. chosen_lies w
        (subst (λ (n : ℤ). n ≤ℤ val w) low (lies_from (ends_of (wrap from) (wrap to)) w h))
        (subst (λ (n : ℤ). val w ≤ℤ n) high (lies_to (ends_of (wrap from) (wrap to)) w h)))
        (λ h.
        let lies = chosen_from w h in
        lies_inside (ends_of (wrap from) (wrap to)) w
        (subst (λ (n : ℤ). n ≤ℤ val w) (sym low) lies.0) (subst (λ (n : ℤ). val w ≤ℤ n) (sym high) lies.1)),
  )
  part_between None is = λ w word held. false_of _ (λ between.
      let lies = chosen_from w (rw (held, between) refl) in
      let least_is = val_least range.least range.least_word in
      let most_is = val_most range.greatest range.greatest_word in
      let most_word = val_most w word in
      let least_word = val_least w word in
      let above = above_range in
      let below = below_range in
      let apart = is (fits_in from (omega (arith, ints)) (omega (arith, ints))) (fits_in to (omega (arith, ints)) (omega (arith, ints))) in
      absurd (omega (arith, ints)))

pub between_negative : (w : ℕ) → w < 2 ^ 18 → has_value_between (negsuc 131071) (negsuc 0) w ≡ is_negative w
between_negative w is = let least = val_least w is in bools_same _ _ (λ h. grind (arith, ints)) (λ h. grind (arith, ints))

pub between_rest : (w : ℕ) → w < 2 ^ 18 → has_value_between (pos 0) (pos 131071) w ≡ is_not_negative w
between_rest w is = let most = val_most w is in bools_same _ _ (λ h. grind (arith, ints)) (λ h. grind (arith, ints))

-- ---- joins

pub joined : (left right range : Range) → range_ends range ≡ hull_of (range_ends left) (range_ends right) → IsJoin range_meaning left right range
joined left right range ends_are = record {
  left_within = λ w is h. ap (λ ends. lies_between ends w) ends_are ∙ left_in w (lies_from (range_ends left) w h) (lies_to (range_ends left) w h);
  right_within = λ w is h. ap (λ ends. lies_between ends w) ends_are ∙ right_in w (lies_from (range_ends right) w h) (lies_to (range_ends right) w h);
  least = λ other h k w is held. least_of other h k w (sym (ap (λ ends. lies_between ends w) ends_are) ∙ held);
  few = λ _. refl;
  many = λ _. refl;
  just = λ listed. absurd (cc);
}
  where
    left_in : (w : ℕ) → val left.least ≤ℤ val w → val w ≤ℤ val left.greatest → lies_between (hull_of (range_ends left) (range_ends right)) w ≡ true
    left_in w h k = grind (arith, ints)

    right_in : (w : ℕ) → val right.least ≤ℤ val w → val w ≤ℤ val right.greatest → lies_between (hull_of (range_ends left) (range_ends right)) w ≡ true
    right_in w h k = grind (arith, ints)

    least_of : (other : Range) → IsWithin range_meaning left other → IsWithin range_meaning right other → (w : ℕ)
        → lies_between (hull_of (range_ends left) (range_ends right)) w ≡ true → lies_between (range_ends other) w ≡ true
    least_of other h k w held =
        let a = lies_from (range_ends other) left.least (h left.least left.least_word (least_lies left)) in
        let b = lies_to (range_ends other) left.greatest (h left.greatest left.greatest_word (greatest_lies left)) in
        let c = lies_from (range_ends other) right.least (k right.least right.least_word (least_lies right)) in
        let d = lies_to (range_ends other) right.greatest (k right.greatest right.greatest_word (greatest_lies right)) in
        grind (arith, ints)

-- ---- by number

one_sign_from : (l g v : ℕ) → l < 2 ^ 18 → g < 2 ^ 18 → v < 2 ^ 18 → is_negative l ≡ is_negative g → lies_between (ends_of l g) v ≡ true → (l ≤ v) × (v ≤ g)
unfolding val
one_sign_from l g v a b c h held = (grind (arith, ints, nat_tests), grind (arith, ints, nat_tests))

one_sign_in : (l g v : ℕ) → l < 2 ^ 18 → g < 2 ^ 18 → is_negative l ≡ is_negative g → l ≤ v → v ≤ g → lies_between (ends_of l g) v ≡ true
unfolding val
one_sign_in l g v a b h k m = grind (arith, ints, nat_tests)

not_held : (b : Bool) → (b ≡ true → ⊥) → b ≡ false
not_held true h = absurd (h refl)
not_held false h = refl

module _ (range : Range) (from : ℕ) (one_sign : is_negative range.least ≡ is_negative range.greatest) where
  pub found_next : (found : ℕ) → from ≤ found → range.least ≤ found → found ≤ range.greatest → ((v : ℕ) → from ≤ v → range.least ≤ v → found ≤ v)
      → IsNext (lies_between (range_ends range)) from (Some found)
  found_next found h k m least = (
    (let last = range.greatest_word in omega arith),
    one_sign_in range.least range.greatest found range.least_word range.greatest_word one_sign k m,
    h,
    λ v from_v before. not_held (lies_between (range_ends range) v) (λ held.
        let last = range.greatest_word in
        let bounds = one_sign_from range.least range.greatest v range.least_word range.greatest_word (omega arith) one_sign held in
        let at_least = least v from_v bounds.0 in omega arith),
  )

  pub none_next : (found : ℕ) → ((v : ℕ) → from ≤ v → range.least ≤ v → found ≤ v) → range.greatest < found
      → IsNext (lies_between (range_ends range)) from None
  none_next found least past = λ v is from_v. not_held (lies_between (range_ends range) v) (λ held.
      let bounds = one_sign_from range.least range.greatest v range.least_word range.greatest_word is one_sign held in
      let at_least = least v from_v bounds.0 in omega arith)

-- ---- the parts one after the other

not_negative_low : (v : ℕ) → v < 2 ^ 18 → is_negative v ≡ false → v < 2 ^ 17
unfolding val
not_negative_low v is h = grind (arith, ints, nat_tests)

low_not_negative : (v : ℕ) → v < 2 ^ 17 → is_negative v ≡ false
unfolding val
low_not_negative v is = grind (arith, ints, nat_tests)

-- a part holds just the words that are chosen
part_held : (chosen : ℕ → Bool) (range : Range) (part : Option Range) → IsPart range_meaning chosen range part → (w : ℕ) → w < 2 ^ 18
    → held_by_part part w ≡ (lies_between (range_ends range) w && chosen w)
part_held chosen range (Some part) is w word = is.1 w word
part_held chosen range None is w word = by (lies_between (range_ends range) w) refl
  where
    by : (b : Bool) → lies_between (range_ends range) w ≡ b → false ≡ (lies_between (range_ends range) w && chosen w)
    by true held = rw (held, is w word held) refl
    by false held = rw held refl

pub rest_first : (range : Range) (from : ℕ) (rest : Option Range) → IsPart range_meaning is_not_negative range rest → (word : ℕ)
    → IsNext (held_by_part rest) from (Some word) → IsNext (lies_between (range_ends range)) from (Some word)
rest_first range from rest is_rest word next =
    let is = next.0 in
    let chosen : (lies_between (range_ends range) word && is_not_negative word) ≡ true = sym (part_held is_not_negative range rest is_rest word is) ∙ next.1 in
    let low : word < 2 ^ 17 = not_negative_low word is (negated (lies_between (range_ends range) word) (is_negative word) chosen) in (
      is,
      held_of (lies_between (range_ends range) word) (is_not_negative word) chosen,
      next.2,
      λ v h k. and_true (lies_between (range_ends range) v) (is_negative v) (low_not_negative v (omega arith))
          ∙ sym (part_held is_not_negative range rest is_rest v (omega arith)) ∙ next.3 v h k,
    )
  where
    negated : (a n : Bool) → (a && not n) ≡ true → n ≡ false
    negated true true h = absurd cc
    negated true false h = refl
    negated false n h = absurd cc

    held_of : (a b : Bool) → (a && b) ≡ true → a ≡ true
    held_of true b h = refl
    held_of false b h = h

    and_true : (a n : Bool) → n ≡ false → a ≡ (a && not n)
    and_true true true h = h
    and_true true false h = refl
    and_true false n h = refl

module _ (range : Range) (from : ℕ) (rest negative : Option Range)
    (is_rest : IsPart range_meaning is_not_negative range rest) (is_part : IsPart range_meaning is_negative range negative) where
  held_is : (w : ℕ) → w < 2 ^ 18 → lies_between (range_ends range) w ≡ (held_by_part rest w || held_by_part negative w)
  held_is w word = rw (part_held is_not_negative range rest is_rest w word, part_held is_negative range negative is_part w word)
      (split (lies_between (range_ends range) w) (is_negative w))
    where
      split : (a n : Bool) → a ≡ ((a && not n) || (a && n))
      split true true = refl
      split true false = refl
      split false n = refl

  pub negative_next : (answer : Option ℕ) → IsNext (held_by_part rest) from None → IsNext (held_by_part negative) from answer
      → IsNext (lies_between (range_ends range)) from answer
  negative_next (Some w) none next =
      (next.0, held_is w next.0 ∙ rw (none w next.0 next.2) next.1, next.2, λ v h k. held_is v (before v w next.0 k) ∙ rw (none v (before v w next.0 k) h) (next.3 v h k))
    where
      before : (v w : ℕ) → w < 2 ^ 18 → v < w → v < 2 ^ 18
      before v w h k = omega arith
  negative_next None none next = λ v is h. held_is v is ∙ rw (none v is h) (next v is h)

-- the ends of a part have one sign
one_sign_of : (chosen : ℕ → Bool) (sign : Bool) → ((w : ℕ) → chosen w ≡ true → is_negative w ≡ sign) → (range : Range) (part : Option Range)
    → IsPart range_meaning chosen range part → IfSome part (λ r. is_negative r.least ≡ is_negative r.greatest)
one_sign_of chosen sign tells range (Some part) is =
    tells part.least (chosen_of (lies_between (range_ends range) part.least) (chosen part.least) (sym (is.1 part.least part.least_word) ∙ least_lies part))
    ∙ sym (tells part.greatest (chosen_of (lies_between (range_ends range) part.greatest) (chosen part.greatest) (sym (is.1 part.greatest part.greatest_word) ∙ greatest_lies part)))
  where
    chosen_of : (a b : Bool) → (a && b) ≡ true → b ≡ true
    chosen_of true b h = h
    chosen_of false b h = absurd cc
one_sign_of chosen sign tells range None is = tt

not_true : (b : Bool) → not b ≡ true → b ≡ false
not_true true h = absurd cc
not_true false h = refl

pub rest_sign : (range : Range) (part : Option Range) → IsPart range_meaning is_not_negative range part
    → IfSome part (λ r. is_negative r.least ≡ is_negative r.greatest)
rest_sign = one_sign_of is_not_negative false (λ w h. not_true (is_negative w) h)

pub negative_sign : (range : Range) (part : Option Range) → IsPart range_meaning is_negative range part
    → IfSome part (λ r. is_negative r.least ≡ is_negative r.greatest)
negative_sign = one_sign_of is_negative true (λ w h. h)
