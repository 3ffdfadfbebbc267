-- Each operation on two intervals has an answer: the least interval of all new A, or operands that overflow.
use Rattle.std.proofs.Common.{◌≡◌, ℕ, Bool, true, false, refl, arith, pos, ℤ, ◌≤ℤ◌, ◌+ℤ◌, ◌-ℤ◌, List, [], ◌∷◌}
use Rattle.std.specs.Prelude.{Result, Ok, Err, not}
use Rattle.std.specs.Int.RustNames.{int_le}
use Rattle.std.proofs.lemmas.Int.{ints}
use Rattle.ags_word.specs.Word.{val}
use Rattle.ags_word.specs.Long.{fits_long}
use Rattle.ags_word.specs.Operation.{Operation, product, sum, difference, negative, size, left_shift, product_high, product_rounded, quotient, long_left_high, long_right_high}
use Rattle.ags_domain.specs.LowBits.{all_ones}
use Rattle.ags_domain.specs.Domain.{Ends}
use Rattle.ags_domain.specs.Hull.{IsInterval, Answers, tried, new_a_at, overflows_at, no_cell}
use Rattle.ags_domain.specs.Candidates.{operands, sum_candidates, difference_candidates, sign_candidates, left_shift_candidates, product_candidates, long_left_candidates, has_zero, quotient_candidates}
use Rattle.ags_domain.specs.Range.{range_meaning, greater}
use Rattle.ags_domain.specs.Corners.{IsFromZero}
use Rattle.ags_domain.specs.Ranged.{IsRangedAnswer}
use Rattle.ags_domain.specs.Value.{value_meaning, value_ends}
use Rattle.ags_domain.specs.MeaningLaws.{value_lawful}
use Rattle.ags_domain.specs.declared.operands.Operands.{Operands}
use Rattle.ags_domain.specs.declared.ranges.Range.{Range}
use Rattle.ags_domain.specs.declared.values.Value.{Value}
use Rattle.ags_domain.specs.declared.values.Value.TheVariants.{Range as ByEnds}
use Rattle.ags_domain.proofs.HullLaws.{AreEnds, IsExact, span_ordered, span_interval}
use Rattle.ags_domain.proofs.CornerLaws.{IsCornered, answers_along}
use Rattle.ags_domain.proofs.SumLaws.{settled_exact, sum_span, difference_span}
use Rattle.ags_domain.proofs.SignLaws.{negative_number, size_number, negative_exact, size_exact, negative_span, size_span_above, size_span_below, negative_told, size_told, at_least, at_greatest, zero_below, across_answers, val_zero}
use Rattle.ags_domain.proofs.ShiftLaws.{left_number, left_exact, left_span, long_left_number, long_left_exact, long_left_span, long_right_number, long_right_exact, long_right_span}
use Rattle.ags_domain.proofs.ProductLaws.{high_number, high_exact, high_corners, rounded_number, rounded_exact, rounded_corners, product_told}
use Rattle.ags_domain.proofs.QuotientLaws.{quotient_number, quotient_exact, quotient_corners, quotient_told, zero_told}
use Rattle.ags_domain.proofs.ValueLaws.{value_ordered, interval_value, answers_of_spans}
use Rattle.ags_check.proofs.RangeLemmas.{some_range, greater_word, word_tried, span_answer, around_answer}

-- ---- from ranges to values

abbrev pub HasAnswer : Operation → (Ends → Ends → List Operands) → (a_ends m_ends : Ends) → Type 0
HasAnswer operation candidates a_ends m_ends = (answer : Result Value Operands) × Answers value_meaning operation candidates a_ends m_ends answer

abbrev HasRange : Operation → (Ends → Ends → List Operands) → (a_ends m_ends : Ends) → Type 0
HasRange operation candidates a_ends m_ends = (answer : Result Range Operands) × Answers range_meaning operation candidates a_ends m_ends answer

ranged : (answer : Result Range Operands) → (result : Result Value Operands) × IsRangedAnswer answer result
ranged (Ok range) = (Ok (ByEnds range), refl)
ranged (Err o) = (Err o, refl)

valued : (operation : Operation) (candidates : Ends → Ends → List Operands) (a m : Ends) → HasRange operation candidates a m → HasAnswer operation candidates a m
valued operation candidates a m found =
    let result = ranged found.0 in
    (result.0, answers_of_spans operation candidates a m a m refl refl found.0 result.0 found.1 result.1)

pub ends_are : (v : Value) → AreEnds (value_ends v)
ends_are v = record { least_word = value_lawful.least_word v; greatest_word = value_lawful.greatest_word v; ordered = value_ordered v }

-- ---- sums and differences

module _ (a m : Ends) (is_a : AreEnds a) (is_m : AreEnds m) where
  pub sum_answer : HasAnswer sum sum_candidates a m
  sum_answer = valued sum sum_candidates a m
      (span_answer sum (λ o. val o.a +ℤ val o.m) a m (settled_exact (λ a q m. val a +ℤ val m) a m)
      (operands a.least 0 m.least) (operands a.greatest 0 m.greatest) (sum_span a m is_a is_m))

  pub difference_answer : HasAnswer difference difference_candidates a m
  difference_answer = valued difference difference_candidates a m
      (span_answer difference (λ o. val o.a -ℤ val o.m) a m (settled_exact (λ a q m. val a -ℤ val m) a m)
      (operands a.least 0 m.greatest) (operands a.greatest 0 m.least) (difference_span a m is_a is_m))

  -- ---- products

  abbrev c1 : Operands
  c1 = operands a.least 0 m.least

  abbrev c2 : Operands
  c2 = operands a.least 0 m.greatest

  abbrev c3 : Operands
  c3 = operands a.greatest 0 m.least

  abbrev c4 : Operands
  c4 = operands a.greatest 0 m.greatest

  product_answer : (operation : Operation) (number : Operands → ℤ) → ((o : Operands) → overflows_at operation o ≡ not (fits_long (product o.a o.m)))
      → IsExact operation number a m → IsCornered number a m c1 c2 c3 c4 → HasAnswer operation product_candidates a m
  product_answer operation number is_over is_exact cornered =
      let found = around_answer operation number a m is_exact c1 c2 c3 c4 cornered in
      valued operation product_candidates a m (
        found.0,
        answers_along operation a m (λ a_ends m_ends. c1 ∷ c2 ∷ c3 ∷ c4 ∷ []) product_candidates
            (product_told operation is_over a m a.least a.least a.greatest a.greatest m.least m.greatest m.least m.greatest) found.0 found.1,
      )

  pub high_answer : HasAnswer product_high product_candidates a m
  high_answer = product_answer product_high high_number (λ o. refl) (high_exact a m) (high_corners a m is_a is_m)

  pub rounded_answer : HasAnswer product_rounded product_candidates a m
  rounded_answer = product_answer product_rounded rounded_number (λ o. refl) (rounded_exact a m) (rounded_corners a m is_a is_m)

  -- ---- quotients

  abbrev d1 : Operands
  d1 = operands a.least 0 m.least

  abbrev d2 : Operands
  d2 = operands a.least 0 m.greatest

  abbrev d3 : Operands
  d3 = operands a.greatest all_ones m.least

  abbrev d4 : Operands
  d4 = operands a.greatest all_ones m.greatest

  quotient_range : (b : Bool) → has_zero m ≡ b → HasRange quotient quotient_candidates a m
  quotient_range true zero = (Err (operands a.least 0 0), zero_told a m is_a zero)
  quotient_range false none =
      let found = around_answer quotient quotient_number a m (quotient_exact a m is_a is_m none) d1 d2 d3 d4 (quotient_corners a m is_a is_m none) in (
        found.0,
        answers_along quotient a m (λ a_ends m_ends. d1 ∷ d2 ∷ d3 ∷ d4 ∷ []) quotient_candidates (quotient_told a m is_a is_m none) found.0 found.1,
      )

  pub quotient_answer : HasAnswer quotient quotient_candidates a m
  quotient_answer = valued quotient quotient_candidates a m (quotient_range (has_zero m) refl)

-- ---- operations without a cell

module _ (a : Ends) (is_a : AreEnds a) where
  abbrev low : Operands
  low = operands a.least 0 0

  abbrev high : Operands
  high = operands a.greatest 0 0

  pub negative_answer : HasAnswer negative sign_candidates a no_cell
  negative_answer =
      let found = span_answer negative negative_number a no_cell (negative_exact a no_cell) high low (negative_span a is_a) in
      valued negative sign_candidates a no_cell (
        found.0,
        answers_along negative a no_cell (λ a_ends m_ends. low ∷ high ∷ []) sign_candidates (negative_told a a.least a.greatest) found.0 found.1,
      )

  -- ---- sizes, by the side of 0 on which A lies

  sizes_above : pos 0 ≤ℤ val a.least → HasRange size sign_candidates a no_cell
  sizes_above above =
      let found = span_answer size size_number a no_cell (size_exact a no_cell) low high (size_span_above a is_a above) in (
        found.0,
        answers_along size a no_cell (λ a_ends m_ends. high ∷ low ∷ []) sign_candidates (size_told a a.greatest a.least) found.0 found.1,
      )

  sizes_below : val a.greatest ≤ℤ pos 0 → HasRange size sign_candidates a no_cell
  sizes_below below =
      let found = span_answer size size_number a no_cell (size_exact a no_cell) high low (size_span_below a is_a below) in (
        found.0,
        answers_along size a no_cell (λ a_ends m_ends. low ∷ high ∷ []) sign_candidates (size_told a a.least a.greatest) found.0 found.1,
      )

  module _ (from : val a.least ≤ℤ pos 0) (to : pos 0 ≤ℤ val a.greatest) where
    across_of : (t1 t2 : Result ℕ Operands) → tried size low ≡ t1 → tried size high ≡ t2 → (answer : Result Range Operands) × IsFromZero t1 t2 answer
    across_of (Err e) t2 h k = (Err e, refl)
    across_of (Ok w1) (Err e) h k = (Err e, refl)
    across_of (Ok w1) (Ok w2) h k =
        let zero = val_zero in
        let above = zero_below a is_a from to w1 w2 h k in
        let range = some_range 0 (greater w1 w2) (omega arith)
        (greater_word w1 w2 (word_tried size size_number a no_cell (size_exact a no_cell) low w1 (at_least a is_a 0 (omega arith)) h)
        (word_tried size size_number a no_cell (size_exact a no_cell) high w2 (at_greatest a is_a 0 (omega arith)) k))
        (omega (arith, ints)) in
        (Ok range.0, range.1)

    sizes_across : HasRange size sign_candidates a no_cell
    sizes_across =
        let across = across_of (tried size low) (tried size high) refl refl in (
          across.0,
          answers_along size a no_cell (λ a_ends m_ends. low ∷ high ∷ []) sign_candidates (size_told a a.least a.greatest) across.0
              (across_answers a is_a from to (tried size low) (tried size high) refl refl across.0 across.1),
        )

  sizes : (b d : Bool) → int_le (pos 0) (val a.least) ≡ b → int_le (val a.greatest) (pos 0) ≡ d → HasRange size sign_candidates a no_cell
  sizes true d above is = sizes_above (grind (arith, ints))
  sizes false true not_above below = sizes_below (grind (arith, ints))
  sizes false false not_above not_below = sizes_across (grind (arith, ints)) (grind (arith, ints))

  pub size_answer : HasAnswer size sign_candidates a no_cell
  size_answer = valued size sign_candidates a no_cell (sizes (int_le (pos 0) (val a.least)) (int_le (val a.greatest) (pos 0)) refl refl)

  -- ---- shifts

  module _ (count : ℕ) where
    pub left_answer : HasAnswer (left_shift count) left_shift_candidates a no_cell
    left_answer = valued (left_shift count) left_shift_candidates a no_cell
        (span_answer (left_shift count) (left_number count) a no_cell (left_exact count a no_cell) low high (left_span count a is_a))

    pub long_left_answer : HasAnswer (long_left_high count) long_left_candidates a no_cell
    long_left_answer = valued (long_left_high count) long_left_candidates a no_cell
        (span_answer (long_left_high count) (long_left_number count) a no_cell (long_left_exact count a no_cell)
        low (operands a.greatest all_ones 0) (long_left_span count a is_a))

    abbrev least_right : ℕ
    least_right = new_a_at (long_right_high count) low

    abbrev greatest_right : ℕ
    greatest_right = new_a_at (long_right_high count) (operands a.greatest all_ones 0)

    pub long_right_interval : (d : Value) × IsInterval value_meaning (long_right_high count) a no_cell d
    long_right_interval =
        let is_exact = long_right_exact count a no_cell in
        let is_span = long_right_span count a is_a in
        let range = some_range least_right greatest_right (is_exact.word low is_span.low_is) (is_exact.word (operands a.greatest all_ones 0) is_span.high_is)
        (span_ordered (long_right_high count) (long_right_number count) a no_cell low (operands a.greatest all_ones 0) least_right greatest_right
        is_exact is_span refl refl) in (
          ByEnds range.0,
          interval_value (long_right_high count) a no_cell range.0
              (span_interval (long_right_high count) (long_right_number count) a no_cell low (operands a.greatest all_ones 0) least_right greatest_right
              is_exact is_span refl refl range.0 range.1),
        )
