-- The numbers of shifts, and the corners between which they lie.
use Rattle.std.proofs.Common.{◌≡◌, ℕ, ◌^◌, true, refl, sym, ap, ◌∙◌, inl, inr, arith, ℤ, pos, ◌*ℤ◌, ◌≤ℤ◌}
use Rattle.std.specs.Prelude.{not, Result}
use Rattle.std.proofs.lemmas.Int.{ints}
use Rattle.ags_word.specs.Word.{val, fits}
use Rattle.ags_word.specs.Long.{long, pair, wrap_long, shifted_right}
use Rattle.ags_word.specs.Operation.{left_shift, long_left_high, long_right_high, shifted_left}
use Rattle.ags_word.proofs.LongLaws.{pair_a_below, fits_long-long, fits_long-shifted_right, wrap_long-fits}
use Rattle.ags_domain.specs.LowBits.{all_ones}
use Rattle.ags_domain.specs.Domain.{Ends}
use Rattle.ags_domain.specs.Hull.{IsOperands, tried, no_cell}
use Rattle.ags_domain.specs.Candidates.{operands, left_shift_candidates, long_left_candidates}
use Rattle.ags_domain.specs.Range.{range_ends}
use Rattle.ags_domain.specs.declared.operands.Operands.{Operands}
use Rattle.ags_domain.specs.declared.ranges.Range.{Range}
use Rattle.ags_domain.proofs.IntLaws.{mul_up, shifted_right_up}
use Rattle.ags_domain.proofs.HullLaws.{IsExact, IsSpan, AreEnds, AreEnds-range, AreEnds-no_cell, span_of}
use Rattle.ags_domain.proofs.CornerLaws.{AreTried, tried_of}
use Rattle.ags_domain.proofs.SumLaws.{settled_exact}
use Rattle.ags_domain.proofs.ProductLaws.{fits_high, high_value}

-- ---- A alone

abbrev pub left_number : ℕ → Operands → ℤ
left_number count o = val o.a *ℤ pos (2 ^ count)

pub left_exact : (count : ℕ) (a_ends m_ends : Ends) → IsExact (left_shift count) (left_number count) a_ends m_ends
left_exact count = settled_exact (λ a q m. val a *ℤ pos (2 ^ count))

pub left_span : (count : ℕ) (a : Ends) → AreEnds a → IsSpan (left_number count) a no_cell (operands a.least 0 0) (operands a.greatest 0 0)
left_span count a is_a = span_of (left_number count) a no_cell (operands a.least 0 0) (operands a.greatest 0 0) is_a AreEnds-no_cell
    (inl refl, inl refl, inl refl) (inr refl, inl refl, inl refl)
    (λ o is. mul_up (val a.least) (val o.a) (2 ^ count) is.a_between.from)
    (λ o is. mul_up (val o.a) (val a.greatest) (2 ^ count) is.a_between.to)

-- ---- pairs

pub long_from : (l a q : ℕ) → val l ≤ℤ val a → long l 0 ≤ℤ long a q
unfolding long
long_from l a q h = omega (arith, ints)

pub long_to : (h a q : ℕ) → val a ≤ℤ val h → long a q ≤ℤ long h all_ones
unfolding long
long_to h a q k = omega (arith, ints)

abbrev pub long_left_number : ℕ → Operands → ℤ
long_left_number count o = shifted_right (shifted_left count o.a o.q) 17

abbrev pub long_right_number : ℕ → Operands → ℤ
long_right_number count o = shifted_right (shifted_right (long o.a o.q) count) 17

long_left_value : (n : ℤ) → fits (shifted_right n 17) ≡ true → val (pair (wrap_long n)).0 ≡ shifted_right n 17
long_left_value n h =
    let kept : wrap_long n ≡ n = wrap_long-fits n (fits_high n ∙ h) in
    rw kept (high_value n h)

pub long_left_exact : (count : ℕ) (a_ends m_ends : Ends) → IsExact (long_left_high count) (long_left_number count) a_ends m_ends
long_left_exact count a_ends m_ends = record {
  word = λ o is. pair_a_below (wrap_long (shifted_left count o.a o.q));
  over = λ o is. ap not (fits_high (shifted_left count o.a o.q));
  exact = λ o is h. long_left_value (shifted_left count o.a o.q) h;
}

pub long_right_exact : (count : ℕ) (a_ends m_ends : Ends) → IsExact (long_right_high count) (long_right_number count) a_ends m_ends
long_right_exact count a_ends m_ends = record {
  word = λ o is. pair_a_below (shifted_right (long o.a o.q) count);
  over = λ o is. ap not (sym (right_fits o is));
  exact = λ o is h. high_value (shifted_right (long o.a o.q) count) h;
}
  where
    right_fits : (o : Operands) → IsOperands a_ends m_ends o → fits (shifted_right (shifted_right (long o.a o.q) count) 17) ≡ true
    right_fits o is = sym (fits_high (shifted_right (long o.a o.q) count)) ∙ fits_long-shifted_right (long o.a o.q) count (fits_long-long o.a o.q is.a_between.is_word)

module _ (count : ℕ) (a : Ends) (is_a : AreEnds a) where
  -- of what a function that keeps the order makes of the pair
  pair_span : (f : ℤ → ℤ) → ((i j : ℤ) → i ≤ℤ j → f i ≤ℤ f j)
      → IsSpan (λ o. shifted_right (f (long o.a o.q)) 17) a no_cell (operands a.least 0 0) (operands a.greatest all_ones 0)
  pair_span f up = span_of (λ o. shifted_right (f (long o.a o.q)) 17) a no_cell (operands a.least 0 0) (operands a.greatest all_ones 0) is_a AreEnds-no_cell
      (inl refl, inl refl, inl refl) (inr refl, inr refl, inl refl)
      (λ o is. shifted_right_up _ _ 17 (up (long a.least 0) (long o.a o.q) (long_from a.least o.a o.q is.a_between.from)))
      (λ o is. shifted_right_up _ _ 17 (up (long o.a o.q) (long a.greatest all_ones) (long_to a.greatest o.a o.q is.a_between.to)))

  pub long_left_span : IsSpan (long_left_number count) a no_cell (operands a.least 0 0) (operands a.greatest all_ones 0)
  long_left_span = pair_span (λ n. n *ℤ pos (2 ^ count)) (λ i j h. mul_up i j (2 ^ count) h)

  pub long_right_span : IsSpan (long_right_number count) a no_cell (operands a.least 0 0) (operands a.greatest all_ones 0)
  long_right_span = pair_span (λ n. shifted_right n count) (λ i j h. shifted_right_up i j count h)

-- ---- tries at the ends of a range

module _ (count : ℕ) (a : Range) (first second : Result ℕ Operands) where
  pub lefts_tried : first ≡ tried (left_shift count) (operands a.greatest 0 0) → second ≡ tried (left_shift count) (operands a.least 0 0)
      → AreTried (left_shift count) left_shift_candidates (range_ends a) no_cell first second
  lefts_tried =
      let ends = range_ends a in
      tried_of (left_shift count) (left_number count) left_shift_candidates ends no_cell (operands a.least 0 0) (operands a.greatest 0 0)
      (left_exact count ends no_cell) (left_span count ends (AreEnds-range a)) (λ e is. is) first second

  pub long_lefts_tried : (q : ℕ) → q ≡ all_ones → first ≡ tried (long_left_high count) (operands a.greatest q 0)
      → second ≡ tried (long_left_high count) (operands a.least 0 0) → AreTried (long_left_high count) long_left_candidates (range_ends a) no_cell first second
  long_lefts_tried q ones h =
      let ends = range_ends a in
      tried_of (long_left_high count) (long_left_number count) long_left_candidates ends no_cell (operands a.least 0 0) (operands a.greatest all_ones 0)
      (long_left_exact count ends no_cell) (long_left_span count ends (AreEnds-range a)) (λ e is. is) first second
      (h ∙ ap (λ q. tried (long_left_high count) (operands a.greatest q 0)) ones)
