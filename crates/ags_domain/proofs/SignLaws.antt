-- The numbers of negatives and sizes, and the corners between which they lie.
use Rattle.std.proofs.Common.{◌≡◌, ℕ, ◌<◌, ◌^◌, true, refl, ◌⊎◌, inl, inr, ⊎_elim, arith, ℤ, pos, negsuc, ◌≤ℤ◌, [], ◌∷◌}
use Rattle.std.specs.Prelude.{neg_ℤ, unsigned_abs, Result, Ok, Err}
use Rattle.std.proofs.lemmas.Int.{ints}
use Rattle.std.proofs.lemmas.Bool.{not-true}
use Rattle.ags_word.specs.Word.{val, fits, wrap}
use Rattle.ags_word.specs.Operation.{Operation, negative, size}
use Rattle.ags_word.proofs.WordLaws.{negative_over, size_over}
use Rattle.ags_domain.specs.Domain.{Ends, IsBetween}
use Rattle.ags_domain.specs.Hull.{IsOperands, IsFirstOverflow, IsInterval, Answers, overflows_at, tried, no_cell}
use Rattle.ags_domain.specs.Candidates.{operands, sign_candidates}
use Rattle.ags_domain.specs.Range.{range_ends, range_meaning, greater, ends_of}
use Rattle.ags_domain.specs.Corners.{IsFromZero}
use Rattle.ags_domain.specs.declared.operands.Operands.{Operands}
use Rattle.ags_domain.specs.declared.ranges.Range.{Range}
use Rattle.ags_domain.proofs.HullLaws.{IsExact, IsFine, IsSpan, AreEnds, AreEnds-range, AreEnds-no_cell, least_between, greatest_between, rimmed_interval, tried_word, word_of, value_of, fine_of, reached_at, end_corner, span_of, told_first, told_later, told_answer}
use Rattle.ags_domain.proofs.CornerLaws.{AreTried, tried_of, found_is, told_alone, greater_one, greater_left, greater_right}
use Rattle.ags_domain.proofs.SumLaws.{settled_exact}

abbrev pub negative_number : Operands → ℤ
negative_number o = neg_ℤ (val o.a)

abbrev pub size_number : Operands → ℤ
size_number o = pos (unsigned_abs (val o.a))

pub negative_exact : (a_ends m_ends : Ends) → IsExact negative negative_number a_ends m_ends
negative_exact = settled_exact (λ a q m. neg_ℤ (val a))

pub size_exact : (a_ends m_ends : Ends) → IsExact size size_number a_ends m_ends
size_exact = settled_exact (λ a q m. pos (unsigned_abs (val a)))

pub zero_between : IsBetween no_cell 0
zero_between = least_between no_cell AreEnds-no_cell

-- the least or the greatest word of A, without a cell
pub at_least : (a : Ends) → AreEnds a → (q : ℕ) → q < 2 ^ 18 → IsOperands a no_cell (operands a.least q 0)
at_least a is_a q h = record { a_between = least_between a is_a; q_word = h; m_between = zero_between }

pub at_greatest : (a : Ends) → AreEnds a → (q : ℕ) → q < 2 ^ 18 → IsOperands a no_cell (operands a.greatest q 0)
at_greatest a is_a q h = record { a_between = greatest_between a is_a; q_word = h; m_between = zero_between }

pub negative_span : (a : Ends) → AreEnds a → IsSpan negative_number a no_cell (operands a.greatest 0 0) (operands a.least 0 0)
negative_span a is_a = span_of negative_number a no_cell (operands a.greatest 0 0) (operands a.least 0 0) is_a AreEnds-no_cell
    (inr refl, inl refl, inl refl) (inl refl, inl refl, inl refl) (λ o is. omega (arith, ints)) (λ o is. omega (arith, ints))

pub size_span_above : (a : Ends) → AreEnds a → pos 0 ≤ℤ val a.least → IsSpan size_number a no_cell (operands a.least 0 0) (operands a.greatest 0 0)
size_span_above a is_a above = span_of size_number a no_cell (operands a.least 0 0) (operands a.greatest 0 0) is_a AreEnds-no_cell
    (inl refl, inl refl, inl refl) (inr refl, inl refl, inl refl) (λ o is. omega (arith, ints)) (λ o is. omega (arith, ints))

pub size_span_below : (a : Ends) → AreEnds a → val a.greatest ≤ℤ pos 0 → IsSpan size_number a no_cell (operands a.greatest 0 0) (operands a.least 0 0)
size_span_below a is_a below = span_of size_number a no_cell (operands a.greatest 0 0) (operands a.least 0 0) is_a AreEnds-no_cell
    (inr refl, inl refl, inl refl) (inl refl, inl refl, inl refl) (λ o is. omega (arith, ints)) (λ o is. omega (arith, ints))

-- ---- what is told

-- operands of A alone that overflow have the least word
module _ (operation : Operation) (is_least : (e : Operands) → e.a < 2 ^ 18 → overflows_at operation e ≡ true → e.a ≡ 2 ^ 17) (a : Ends) (x y : ℕ) (e : Operands) where
  sign_told : IsFirstOverflow operation a no_cell (operands x 0 0 ∷ operands y 0 0 ∷ []) e → IsFirstOverflow operation a no_cell (sign_candidates a no_cell) e
  sign_told is =
      let found = found_is (overflows_at operation) (λ o. (o.q ≡ 0) × (o.m ≡ 0)) (operands x 0 0 ∷ operands y 0 0 ∷ []) e ((refl, refl), ((refl, refl), tt)) is.first in
      let least = is_least e is.operands.a_between.is_word found.1 in
      told_alone operation a no_cell e (2 ^ 17) 0 0 least found.0.0 found.0.1 found.1 is.operands

module _ (a : Ends) (x y : ℕ) (e : Operands) where
  pub negative_told : IsFirstOverflow negative a no_cell (operands x 0 0 ∷ operands y 0 0 ∷ []) e → IsFirstOverflow negative a no_cell (sign_candidates a no_cell) e
  negative_told = sign_told negative (λ e is over. negative_over e.a is (not-true (fits (neg_ℤ (val e.a))) over)) a x y e

  pub size_told : IsFirstOverflow size a no_cell (operands x 0 0 ∷ operands y 0 0 ∷ []) e → IsFirstOverflow size a no_cell (sign_candidates a no_cell) e
  size_told = sign_told size (λ e is over. size_over e.a is (not-true (fits (pos (unsigned_abs (val e.a)))) over)) a x y e

-- ---- tries at the ends of a range

module _ (a : Range) (first second : Result ℕ Operands) where
  pub negatives_tried : first ≡ tried negative (operands a.least 0 0) → second ≡ tried negative (operands a.greatest 0 0)
      → AreTried negative sign_candidates (range_ends a) no_cell first second
  negatives_tried =
      let ends = range_ends a in
      tried_of negative negative_number sign_candidates ends no_cell (operands a.greatest 0 0) (operands a.least 0 0)
      (negative_exact ends no_cell) (negative_span ends (AreEnds-range a)) (negative_told ends a.least a.greatest) first second

  pub sizes_tried : (low high : ℕ) → IsSpan size_number (range_ends a) no_cell (operands low 0 0) (operands high 0 0)
      → first ≡ tried size (operands high 0 0) → second ≡ tried size (operands low 0 0) → AreTried size sign_candidates (range_ends a) no_cell first second
  sizes_tried low high is_span =
      let ends = range_ends a in
      tried_of size size_number sign_candidates ends no_cell (operands low 0 0) (operands high 0 0)
      (size_exact ends no_cell) is_span (size_told ends high low) first second

-- ---- sizes of an interval that has 0

pub val_zero : val 0 ≡ pos 0
unfolding val
val_zero = refl

zero_tried : tried size (operands 0 0 0) ≡ Ok 0
unfolding val fits wrap
zero_tried = refl

module _ (a : Ends) (is_a : AreEnds a) (from_below : val a.least ≤ℤ pos 0) (to_above : pos 0 ≤ℤ val a.greatest) where
  zero_is : IsOperands a no_cell (operands 0 0 0)
  zero_is = record {
    a_between = record { is_word = omega arith; from = omega (arith, ints, val_zero); to = omega (arith, ints, val_zero) };
    q_word = omega arith;
    m_between = zero_between;
  }

  module _ (w1 w2 : ℕ) (ok1 : tried size (operands a.least 0 0) ≡ Ok w1) (ok2 : tried size (operands a.greatest 0 0) ≡ Ok w2) where
    size_is : (o : Operands) (w : ℕ) → IsOperands a no_cell o → tried size o ≡ Ok w → val w ≡ size_number o
    size_is = value_of size size_number a no_cell (size_exact a no_cell)

    pub zero_below : pos 0 ≤ℤ val (greater w1 w2)
    zero_below = omega (arith, ints, size_is (operands a.least 0 0) w1 (at_least a is_a 0 (omega arith)) ok1, greater_left w1 w2)

    fine_at : (o : Operands) (w : ℕ) → IsOperands a no_cell o → tried size o ≡ Ok w → val w ≤ℤ val (greater w1 w2)
        → IsFine size a no_cell (ends_of 0 (greater w1 w2)) o
    fine_at o w is ok to = fine_of size a no_cell (ends_of 0 (greater w1 w2)) o w is ok (record {
      is_word = word_of size size_number a no_cell (size_exact a no_cell) o w is ok;
      from = omega (arith, ints, val_zero, size_is o w is ok);
      to = to;
    })

    zero_fine : IsFine size a no_cell (ends_of 0 (greater w1 w2)) (operands 0 0 0)
    zero_fine = fine_at (operands 0 0 0) 0 zero_is zero_tried (omega (arith, ints, val_zero, zero_below))

    first_fine : IsFine size a no_cell (ends_of 0 (greater w1 w2)) (operands a.least 0 0)
    first_fine = fine_at (operands a.least 0 0) w1 (at_least a is_a 0 (omega arith)) ok1 (greater_left w1 w2)

    second_fine : IsFine size a no_cell (ends_of 0 (greater w1 w2)) (operands a.greatest 0 0)
    second_fine = fine_at (operands a.greatest 0 0) w2 (at_greatest a is_a 0 (omega arith)) ok2 (greater_right w1 w2)

    bounded : (o : Operands) → IsOperands a no_cell o → (size_number o ≤ℤ size_number (operands a.least 0 0)) ⊎ (size_number o ≤ℤ size_number (operands a.greatest 0 0))
    bounded o is = by_sign (val o.a) is.a_between.from is.a_between.to
      where
        by_sign : (n : ℤ) → val a.least ≤ℤ n → n ≤ℤ val a.greatest → (pos (unsigned_abs n) ≤ℤ pos (unsigned_abs (val a.least))) ⊎ (pos (unsigned_abs n) ≤ℤ pos (unsigned_abs (val a.greatest)))
        by_sign (pos n) h k = inr (omega (arith, ints))
        by_sign (negsuc n) h k = inl (omega (arith, ints))

    pub across_interval : (range : Range) → range_ends range ≡ ends_of 0 (greater w1 w2) → IsInterval range_meaning size a no_cell range
    across_interval = rimmed_interval size size_number a no_cell (size_exact a no_cell) (ends_of 0 (greater w1 w2))
        (record {
          lower = λ o is. (operands 0 0 0, zero_fine, omega (arith, ints, val_zero));
          upper = λ o is. ⊎_elim (λ h. (operands a.least 0 0, first_fine, h)) (λ h. (operands a.greatest 0 0, second_fine, h)) (bounded o is);
        })
        (record { at = operands 0 0 0; operands = zero_is; corner = inr (refl, refl); given = tried_word size (operands 0 0 0) 0 zero_tried })
        (⊎_elim
        (reached_at size a no_cell (operands a.least 0 0) w1 (greater w1 w2) (at_least a is_a 0 (omega arith))
        (end_corner a no_cell (operands a.least 0 0) (inl refl, inl refl, inl refl)) ok1)
        (reached_at size a no_cell (operands a.greatest 0 0) w2 (greater w1 w2) (at_greatest a is_a 0 (omega arith))
        (end_corner a no_cell (operands a.greatest 0 0) (inr refl, inl refl, inl refl)) ok2)
        (greater_one w1 w2))

  pub across_answers : (t1 t2 : Result ℕ Operands) → tried size (operands a.least 0 0) ≡ t1 → tried size (operands a.greatest 0 0) ≡ t2
      → (answer : Result Range Operands) → IsFromZero t1 t2 answer
      → Answers range_meaning size (λ a m. operands a.least 0 0 ∷ operands a.greatest 0 0 ∷ []) a no_cell answer
  across_answers (Err e) t2 h1 h2 answer is =
      told_answer size a no_cell (operands a.least 0 0 ∷ operands a.greatest 0 0 ∷ []) e answer is
      (told_first size a no_cell (operands a.least 0 0) e (operands a.greatest 0 0 ∷ []) (at_least a is_a 0 (omega arith)) h1)
  across_answers (Ok w1) (Err e) h1 h2 answer is =
      told_answer size a no_cell (operands a.least 0 0 ∷ operands a.greatest 0 0 ∷ []) e answer is
      (told_later size a no_cell (operands a.least 0 0) e w1 (operands a.greatest 0 0 ∷ []) h1
      (told_first size a no_cell (operands a.greatest 0 0) e [] (at_greatest a is_a 0 (omega arith)) h2))
  across_answers (Ok w1) (Ok w2) h1 h2 (Ok range) is = across_interval w1 w2 h1 h2 range is
  across_answers (Ok w1) (Ok w2) h1 h2 (Err o) is = absurd is
