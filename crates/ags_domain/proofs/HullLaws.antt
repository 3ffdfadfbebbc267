-- From the exact number after an operation to its hull: where each number lies between those of two corners that don't overflow,
-- nothing overflows, and the ends are those of the corners.
use Rattle.std.proofs.Common.{◌≡◌, ℕ, ◌<◌, ◌^◌, Bool, true, false, refl, sym, ap, ◌∙◌, subst, ◌⊎◌, inl, ⊎_elim, arith, ℤ, ◌≤ℤ◌, List, [], ◌∷◌}
use Rattle.std.specs.Prelude.{not, Some, Result, Ok, Err, if◌then◌else◌}
use Rattle.std.specs.List.{find}
use Rattle.std.proofs.lemmas.Int.{ints}
use Rattle.std.proofs.lemmas.Bool.{not-false}
use Rattle.ags_word.specs.Word.{val, fits}
use Rattle.ags_word.specs.Operation.{Operation}
use Rattle.ags_word.proofs.WordLaws.{fits_in, fits_least, fits_most}
use Rattle.ags_domain.specs.LowBits.{all_ones}
use Rattle.ags_domain.specs.Domain.{Ends, IsBetween}
use Rattle.ags_domain.specs.Hull.{IsOperands, IsCorner, IsReached, IsHull, NoneOverflows, IsFirstOverflow, IsInterval, Answers, tried, new_a_at, overflows_at, no_cell}
use Rattle.ags_domain.specs.Range.{range_ends, range_meaning, lesser, greater, ends_of}
use Rattle.ags_domain.specs.Corners.{IsSpanned}
use Rattle.ags_domain.specs.declared.ranges.Range.{Range}
use Rattle.ags_domain.specs.declared.operands.Operands.{Operands}

-- an operation overflows exactly where its number is no word's value, and else leaves the word of that value in A
pub record IsExact (operation : Operation) (number : Operands → ℤ) (a_ends m_ends : Ends) : Type 0 where
  pub word : (o : Operands) → IsOperands a_ends m_ends o → new_a_at operation o < 2 ^ 18
  pub over : (o : Operands) → IsOperands a_ends m_ends o → overflows_at operation o ≡ not (fits (number o))
  pub exact : (o : Operands) → IsOperands a_ends m_ends o → fits (number o) ≡ true → val (new_a_at operation o) ≡ number o

-- operands that don't overflow, and whose new A lies between two ends
pub record IsFine (operation : Operation) (a_ends m_ends ends : Ends) (o : Operands) : Type 0 where
  pub operands : IsOperands a_ends m_ends o
  pub fine : overflows_at operation o ≡ false
  pub inside : IsBetween ends (new_a_at operation o)

fits_between : (x y z : ℤ) → x ≤ℤ y → y ≤ℤ z → fits x ≡ true → fits z ≡ true → fits y ≡ true
fits_between x y z h k p q =
    let low = fits_least x p in
    let high = fits_most z q in
    fits_in y (omega (arith, ints)) (omega (arith, ints))

-- what one try tells
picked_ok : {A B : Type 0} (b : Bool) (e : B) (w v : A) → (if b then Err e else Ok w) ≡ Ok v → (b ≡ false) × (w ≡ v)
picked_ok true e w v h = absurd cc
picked_ok false e w v h = (refl, cc)

pub tried_fine : (operation : Operation) (o : Operands) (w : ℕ) → tried operation o ≡ Ok w → overflows_at operation o ≡ false
tried_fine operation o w h = (picked_ok (overflows_at operation o) o (new_a_at operation o) w h).0

pub tried_word : (operation : Operation) (o : Operands) (w : ℕ) → tried operation o ≡ Ok w → new_a_at operation o ≡ w
tried_word operation o w h = (picked_ok (overflows_at operation o) o (new_a_at operation o) w h).1

module _ (operation : Operation) (number : Operands → ℤ) (a_ends m_ends : Ends) (is_exact : IsExact operation number a_ends m_ends) where
  number_fits : (o : Operands) → IsOperands a_ends m_ends o → overflows_at operation o ≡ false → fits (number o) ≡ true
  number_fits o is fine = not-false (fits (number o)) (sym (is_exact.over o is) ∙ fine)

  value_is : (o : Operands) → IsOperands a_ends m_ends o → overflows_at operation o ≡ false → val (new_a_at operation o) ≡ number o
  value_is o is fine = is_exact.exact o is (number_fits o is fine)

  -- of a try that doesn't overflow
  pub word_of : (o : Operands) (w : ℕ) → IsOperands a_ends m_ends o → tried operation o ≡ Ok w → w < 2 ^ 18
  word_of o w is ok = subst (λ (v : ℕ). v < 2 ^ 18) (tried_word operation o w ok) (is_exact.word o is)

  pub value_of : (o : Operands) (w : ℕ) → IsOperands a_ends m_ends o → tried operation o ≡ Ok w → val w ≡ number o
  value_of o w is ok = subst (λ v. val v ≡ number o) (tried_word operation o w ok) (value_is o is (tried_fine operation o w ok))

  module _ (ends : Ends) where
    -- between two operands that are fine
    fits_along : (o low high : Operands) → IsOperands a_ends m_ends o → IsFine operation a_ends m_ends ends low → IsFine operation a_ends m_ends ends high
        → number low ≤ℤ number o → number o ≤ℤ number high → fits (number o) ≡ true
    fits_along o low high is is_low is_high h k =
        fits_between (number low) (number o) (number high) h k (number_fits low is_low.operands is_low.fine) (number_fits high is_high.operands is_high.fine)

    inside_along : (o low high : Operands) → IsOperands a_ends m_ends o → IsFine operation a_ends m_ends ends low → IsFine operation a_ends m_ends ends high
        → number low ≤ℤ number o → number o ≤ℤ number high → IsBetween ends (new_a_at operation o)
    inside_along o low high is is_low is_high h k =
        let value = is_exact.exact o is (fits_along o low high is is_low is_high h k) in
        let low_value = value_is low is_low.operands is_low.fine in
        let high_value = value_is high is_high.operands is_high.fine in
        record { is_word = is_exact.word o is; from = omega (arith, ints); to = omega (arith, ints) }

    -- each number lies between those of two operands that are fine
    pub record IsRimmed : Type 0 where
      pub lower : (o : Operands) → IsOperands a_ends m_ends o → (low : Operands) × IsFine operation a_ends m_ends ends low × (number low ≤ℤ number o)
      pub upper : (o : Operands) → IsOperands a_ends m_ends o → (high : Operands) × IsFine operation a_ends m_ends ends high × (number o ≤ℤ number high)

    none_over : IsRimmed → NoneOverflows operation a_ends m_ends
    none_over rim o is =
        let low = rim.lower o is in
        let high = rim.upper o is in
        is_exact.over o is ∙ ap not (fits_along o low.0 high.0 is low.1 high.1 low.2 high.2)

    hull_inside : IsRimmed → (o : Operands) → IsOperands a_ends m_ends o → IsBetween ends (new_a_at operation o)
    hull_inside rim o is =
        let low = rim.lower o is in
        let high = rim.upper o is in
        inside_along o low.0 high.0 is low.1 high.1 low.2 high.2

    -- the interval between two ends that are reached
    pub rimmed_interval : IsRimmed → IsReached operation a_ends m_ends ends.least → IsReached operation a_ends m_ends ends.greatest
        → (range : Range) → range_ends range ≡ ends → IsInterval range_meaning operation a_ends m_ends range
    rimmed_interval rim least greatest range ends_are = record {
      none = none_over rim;
      hull = subst (λ ends. IsHull operation a_ends m_ends ends) (sym ends_are) (record { each = hull_inside rim; least = least; greatest = greatest });
      kept = refl;
    }

pub fine_of : (operation : Operation) (a_ends m_ends ends : Ends) (o : Operands) (w : ℕ) → IsOperands a_ends m_ends o → tried operation o ≡ Ok w
    → IsBetween ends w → IsFine operation a_ends m_ends ends o
fine_of operation a_ends m_ends ends o w is ok inside = record {
  operands = is;
  fine = tried_fine operation o w ok;
  inside = subst (λ v. IsBetween ends v) (sym (tried_word operation o w ok)) inside;
}

pub reached_at : (operation : Operation) (a_ends m_ends : Ends) (o : Operands) (w v : ℕ) → IsOperands a_ends m_ends o → IsCorner a_ends m_ends o
    → tried operation o ≡ Ok w → v ≡ w → IsReached operation a_ends m_ends v
reached_at operation a_ends m_ends o w v is corner ok e = record { at = o; operands = is; corner = inl corner; given = tried_word operation o w ok ∙ sym e }

-- ---- ends

-- two ends are words, the first of no greater value than the second
pub record AreEnds (ends : Ends) : Type 0 where
  pub least_word : ends.least < 2 ^ 18
  pub greatest_word : ends.greatest < 2 ^ 18
  pub ordered : val ends.least ≤ℤ val ends.greatest

pub AreEnds-range : (range : Range) → AreEnds (range_ends range)
AreEnds-range range = record { least_word = range.least_word; greatest_word = range.greatest_word; ordered = range.ordered }

pub AreEnds-no_cell : AreEnds no_cell
AreEnds-no_cell = record { least_word = omega arith; greatest_word = omega arith; ordered = omega (arith, ints) }

pub least_between : (ends : Ends) → AreEnds ends → IsBetween ends ends.least
least_between ends are = record { is_word = are.least_word; from = omega (arith, ints); to = are.ordered }

pub greatest_between : (ends : Ends) → AreEnds ends → IsBetween ends ends.greatest
greatest_between ends are = record { is_word = are.greatest_word; from = are.ordered; to = omega (arith, ints) }

-- ---- operands of which A and the cell are at ends of their intervals, and the low part of Q has no bit set, or all

abbrev pub IsAtEnds : (a m : Ends) → Operands → Type 0
IsAtEnds a m o = ((o.a ≡ a.least) ⊎ (o.a ≡ a.greatest)) × ((o.q ≡ 0) ⊎ (o.q ≡ all_ones)) × ((o.m ≡ m.least) ⊎ (o.m ≡ m.greatest))

end_between : (ends : Ends) (w : ℕ) → AreEnds ends → (w ≡ ends.least) ⊎ (w ≡ ends.greatest) → IsBetween ends w
end_between ends w are = ⊎_elim
    (λ e. subst (λ v. IsBetween ends v) (sym e) (least_between ends are))
    (λ e. subst (λ v. IsBetween ends v) (sym e) (greatest_between ends are))

pub end_operands : (a m : Ends) (o : Operands) → AreEnds a → AreEnds m → IsAtEnds a m o → IsOperands a m o
end_operands a m o is_a is_m at = record {
  a_between = end_between a o.a is_a at.0;
  q_word = ⊎_elim (λ e. omega arith) (λ e. omega arith) at.1;
  m_between = end_between m o.m is_m at.2;
}

pub end_corner : (a m : Ends) (o : Operands) → IsAtEnds a m o → IsCorner a m o
end_corner a m o at = record { a_corner = at.0; q_corner = at.1; m_corner = at.2 }

-- ---- two corners: the numbers of all operands lie between theirs

pub record IsSpan (number : Operands → ℤ) (a_ends m_ends : Ends) (low high : Operands) : Type 0 where
  pub low_is : IsOperands a_ends m_ends low
  pub high_is : IsOperands a_ends m_ends high
  pub low_corner : IsCorner a_ends m_ends low
  pub high_corner : IsCorner a_ends m_ends high
  pub from : (o : Operands) → IsOperands a_ends m_ends o → number low ≤ℤ number o
  pub to : (o : Operands) → IsOperands a_ends m_ends o → number o ≤ℤ number high

pub span_of : (number : Operands → ℤ) (a m : Ends) (low high : Operands) → AreEnds a → AreEnds m → IsAtEnds a m low → IsAtEnds a m high
    → ((o : Operands) → IsOperands a m o → number low ≤ℤ number o) → ((o : Operands) → IsOperands a m o → number o ≤ℤ number high) → IsSpan number a m low high
span_of number a m low high is_a is_m at_low at_high from to = record {
  low_is = end_operands a m low is_a is_m at_low;
  high_is = end_operands a m high is_a is_m at_high;
  low_corner = end_corner a m low at_low;
  high_corner = end_corner a m high at_high;
  from = from;
  to = to;
}

module _ (operation : Operation) (number : Operands → ℤ) (a_ends m_ends : Ends) (low high : Operands) (least greatest : ℕ)
    (is_exact : IsExact operation number a_ends m_ends) (is_span : IsSpan number a_ends m_ends low high)
    (low_ok : tried operation low ≡ Ok least) (high_ok : tried operation high ≡ Ok greatest) where
  pub span_ordered : val least ≤ℤ val greatest
  span_ordered =
      let low_value = value_of operation number a_ends m_ends is_exact low least is_span.low_is low_ok in
      let high_value = value_of operation number a_ends m_ends is_exact high greatest is_span.high_is high_ok in
      let along = is_span.to low is_span.low_is in
      omega (arith, ints)

  span_ends : AreEnds (ends_of least greatest)
  span_ends = record {
    least_word = word_of operation number a_ends m_ends is_exact low least is_span.low_is low_ok;
    greatest_word = word_of operation number a_ends m_ends is_exact high greatest is_span.high_is high_ok;
    ordered = span_ordered;
  }

  low_fine : IsFine operation a_ends m_ends (ends_of least greatest) low
  low_fine = fine_of operation a_ends m_ends (ends_of least greatest) low least is_span.low_is low_ok (least_between (ends_of least greatest) span_ends)

  high_fine : IsFine operation a_ends m_ends (ends_of least greatest) high
  high_fine = fine_of operation a_ends m_ends (ends_of least greatest) high greatest is_span.high_is high_ok (greatest_between (ends_of least greatest) span_ends)

  pub span_interval : (range : Range) → range_ends range ≡ record { least = least; greatest = greatest } → IsInterval range_meaning operation a_ends m_ends range
  span_interval = rimmed_interval operation number a_ends m_ends is_exact (ends_of least greatest)
      (record { lower = λ o is. (low, low_fine, is_span.from o is); upper = λ o is. (high, high_fine, is_span.to o is) })
      (reached_at operation a_ends m_ends low least least is_span.low_is is_span.low_corner low_ok refl)
      (reached_at operation a_ends m_ends high greatest greatest is_span.high_is is_span.high_corner high_ok refl)

-- ---- operands that are told

picked_err : {A B : Type 0} (b : Bool) (e d : B) (w : A) → (if b then Err e else Ok w) ≡ Err d → (b ≡ true) × (e ≡ d)
picked_err true e d w h = (refl, cc)
picked_err false e d w h = absurd cc

-- the first candidate overflows
pub told_first : (operation : Operation) (a_ends m_ends : Ends) (o e : Operands) (candidates : List Operands)
    → IsOperands a_ends m_ends o → tried operation o ≡ Err e → IsFirstOverflow operation a_ends m_ends (o ∷ candidates) e
told_first operation a_ends m_ends o e candidates is h =
    let both = picked_err (overflows_at operation o) o e (new_a_at operation o) h in
    let found : find (overflows_at operation) (o ∷ candidates) ≡ Some o = rw both.0 refl in
    subst (λ d. IsFirstOverflow operation a_ends m_ends (o ∷ candidates) d) both.1 (record { operands = is; first = found })

-- it doesn't, and a later one is told
pub told_later : (operation : Operation) (a_ends m_ends : Ends) (o e : Operands) (w : ℕ) (candidates : List Operands)
    → tried operation o ≡ Ok w → IsFirstOverflow operation a_ends m_ends candidates e → IsFirstOverflow operation a_ends m_ends (o ∷ candidates) e
told_later operation a_ends m_ends o e w candidates h is =
    record { operands = is.operands; first = rw (tried_fine operation o w h) is.first }

-- the answer that tells them
pub told_answer : (operation : Operation) (a_ends m_ends : Ends) (candidates : List Operands) (e : Operands) (answer : Result Range Operands) → answer ≡ Err e
    → IsFirstOverflow operation a_ends m_ends candidates e → Answers range_meaning operation (λ a m. candidates) a_ends m_ends answer
told_answer operation a_ends m_ends candidates e answer is =
    subst (λ (r : Result Range Operands). Answers range_meaning operation (λ a m. candidates) a_ends m_ends r) (sym is)

-- ---- the answer of two tries

module _ (operation : Operation) (number : Operands → ℤ) (a_ends m_ends : Ends) (low high : Operands)
    (is_exact : IsExact operation number a_ends m_ends) (is_span : IsSpan number a_ends m_ends low high) where
  pub spanned_ordered : (least greatest : ℕ) → tried operation low ≡ Ok least → tried operation high ≡ Ok greatest → val least ≤ℤ val greatest
  spanned_ordered least greatest = span_ordered operation number a_ends m_ends low high least greatest is_exact is_span

  pub spanned_answers : (greatest least : Result ℕ Operands) → tried operation high ≡ greatest → tried operation low ≡ least → (answer : Result Range Operands)
      → IsSpanned greatest least answer → Answers range_meaning operation (λ a m. high ∷ low ∷ []) a_ends m_ends answer
  spanned_answers (Err e) least h k answer is =
      told_answer operation a_ends m_ends (high ∷ low ∷ []) e answer is
      (told_first operation a_ends m_ends high e (low ∷ []) is_span.high_is h)
  spanned_answers (Ok greatest) (Err e) h k answer is =
      told_answer operation a_ends m_ends (high ∷ low ∷ []) e answer is
      (told_later operation a_ends m_ends high e greatest (low ∷ []) h (told_first operation a_ends m_ends low e [] is_span.low_is k))
  spanned_answers (Ok greatest) (Ok least) h k (Ok range) is = span_interval operation number a_ends m_ends low high least greatest is_exact is_span k h range is
  spanned_answers (Ok greatest) (Ok least) h k (Err o) is = absurd is

-- ---- ends of two ranges

pub lesser_greater : (l g m h : ℕ) → val l ≤ℤ val g → val m ≤ℤ val h → val (lesser l m) ≤ℤ val (greater g h)
lesser_greater l g m h p q = grind (arith, ints)

pub over_ordered : (x y : ℕ) → val (lesser x y) ≤ℤ val (greater x y)
over_ordered x y = grind (arith, ints)
