-- The numbers of sums and differences, and the corners between which they lie.
use Rattle.std.proofs.Common.{◌≡◌, ℕ, refl, inl, inr, arith, ℤ, ◌+ℤ◌, ◌-ℤ◌}
use Rattle.std.specs.Prelude.{Result}
use Rattle.std.proofs.lemmas.Int.{ints}
use Rattle.ags_word.specs.Word.{val}
use Rattle.ags_word.specs.Operation.{settled, sum, difference}
use Rattle.ags_word.proofs.WordLaws.{val-wrap, wrap_below}
use Rattle.ags_domain.specs.Domain.{Ends}
use Rattle.ags_domain.specs.Hull.{tried}
use Rattle.ags_domain.specs.Candidates.{operands, sum_candidates, difference_candidates}
use Rattle.ags_domain.specs.Range.{range_ends}
use Rattle.ags_domain.specs.declared.operands.Operands.{Operands}
use Rattle.ags_domain.specs.declared.ranges.Range.{Range}
use Rattle.ags_domain.proofs.HullLaws.{IsExact, IsSpan, AreEnds, AreEnds-range, span_of}
use Rattle.ags_domain.proofs.CornerLaws.{AreTried, tried_of}

-- an operation whose exact result is a number
pub settled_exact : (number : (a q m : ℕ) → ℤ) (a_ends m_ends : Ends) → IsExact (settled number) (λ o. number o.a o.q o.m) a_ends m_ends
settled_exact number a_ends m_ends = record {
  word = λ o is. wrap_below (number o.a o.q o.m);
  over = λ o is. refl;
  exact = λ o is h. val-wrap (number o.a o.q o.m) h;
}

pub sum_span : (a m : Ends) → AreEnds a → AreEnds m
    → IsSpan (λ o. val o.a +ℤ val o.m) a m (operands a.least 0 m.least) (operands a.greatest 0 m.greatest)
sum_span a m is_a is_m = span_of (λ o. val o.a +ℤ val o.m) a m (operands a.least 0 m.least) (operands a.greatest 0 m.greatest) is_a is_m
    (inl refl, inl refl, inl refl) (inr refl, inl refl, inr refl) (λ o is. omega (arith, ints)) (λ o is. omega (arith, ints))

pub difference_span : (a m : Ends) → AreEnds a → AreEnds m
    → IsSpan (λ o. val o.a -ℤ val o.m) a m (operands a.least 0 m.greatest) (operands a.greatest 0 m.least)
difference_span a m is_a is_m = span_of (λ o. val o.a -ℤ val o.m) a m (operands a.least 0 m.greatest) (operands a.greatest 0 m.least) is_a is_m
    (inl refl, inl refl, inr refl) (inr refl, inl refl, inl refl) (λ o is. omega (arith, ints)) (λ o is. omega (arith, ints))

-- ---- tries at the ends of two ranges

module _ (a m : Range) (first second : Result ℕ Operands) where
  pub sums_tried : first ≡ tried sum (operands a.greatest 0 m.greatest) → second ≡ tried sum (operands a.least 0 m.least)
      → AreTried sum sum_candidates (range_ends a) (range_ends m) first second
  sums_tried =
      let a_ends = range_ends a in
      let m_ends = range_ends m in
      tried_of sum (λ o. val o.a +ℤ val o.m) sum_candidates a_ends m_ends (operands a.least 0 m.least) (operands a.greatest 0 m.greatest)
      (settled_exact (λ a q m. val a +ℤ val m) a_ends m_ends) (sum_span a_ends m_ends (AreEnds-range a) (AreEnds-range m)) (λ e is. is) first second

  pub differences_tried : first ≡ tried difference (operands a.greatest 0 m.least) → second ≡ tried difference (operands a.least 0 m.greatest)
      → AreTried difference difference_candidates (range_ends a) (range_ends m) first second
  differences_tried =
      let a_ends = range_ends a in
      let m_ends = range_ends m in
      tried_of difference (λ o. val o.a -ℤ val o.m) difference_candidates a_ends m_ends (operands a.least 0 m.greatest) (operands a.greatest 0 m.least)
      (settled_exact (λ a q m. val a -ℤ val m) a_ends m_ends) (difference_span a_ends m_ends (AreEnds-range a) (AreEnds-range m)) (λ e is. is) first second
