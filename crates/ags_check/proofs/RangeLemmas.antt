-- The ranges and word sets of words in hand, and the ranges that tries at corners make.
use Rattle.std.proofs.Common.{◌≡◌, ℕ, ◌<◌, ◌≤◌, ◌^◌, true, refl, sym, subst, ⊎_elim, List, [], ◌∷◌, length, ℤ, ◌≤ℤ◌}
use Rattle.std.specs.Prelude.{Result, Ok, Err}
use Rattle.ags_word.specs.Word.{val}
use Rattle.ags_word.specs.Operation.{Operation}
use Rattle.ags_domain.specs.WordSet.{ascends_from}
use Rattle.ags_domain.specs.Domain.{Ends}
use Rattle.ags_domain.specs.Hull.{IsOperands, Answers, tried}
use Rattle.ags_domain.specs.Range.{range_ends, range_meaning, lesser, greater, ends_of}
use Rattle.ags_domain.specs.Corners.{IsSpanned, IsAround}
use Rattle.ags_domain.specs.declared.operands.Operands.{Operands}
use Rattle.ags_domain.specs.declared.ranges.Range.{Range}
use Rattle.ags_domain.specs.declared.word_sets.WordSet.{WordSet}
use Rattle.ags_domain.proofs.HullLaws.{IsExact, IsSpan, tried_word, spanned_ordered, spanned_answers, lesser_greater, over_ordered}
use Rattle.ags_domain.proofs.CornerLaws.{IsCornered, around_answers, lesser_one, greater_one}

-- ---- words in hand

abbrev range_of : (least greatest : ℕ) → least < 2 ^ 18 → greatest < 2 ^ 18 → val least ≤ℤ val greatest → Range
range_of least greatest a b c = record { least = least; greatest = greatest; least_word = a; greatest_word = b; ordered = c }

pub some_range : (least greatest : ℕ) → least < 2 ^ 18 → greatest < 2 ^ 18 → val least ≤ℤ val greatest
    → (range : Range) × (range_ends range ≡ ends_of least greatest)
some_range least greatest a b c = (range_of least greatest a b c, refl)

abbrev set_of : (words : List ℕ) → ascends_from 0 words ≡ true → 0 < length words → length words ≤ 16 → WordSet
set_of words a b c = record { list = words; ascending = a; some = b; few = c }

pub some_set : (words : List ℕ) → ascends_from 0 words ≡ true → 0 < length words → length words ≤ 16 → (set : WordSet) × (set.list ≡ words)
some_set words a b c = (set_of words a b c, refl)

-- ---- words of two

pub lesser_word : (x y : ℕ) → x < 2 ^ 18 → y < 2 ^ 18 → lesser x y < 2 ^ 18
lesser_word x y h k = ⊎_elim (λ e. subst (λ (v : ℕ). v < 2 ^ 18) (sym e) h) (λ e. subst (λ (v : ℕ). v < 2 ^ 18) (sym e) k) (lesser_one x y)

pub greater_word : (x y : ℕ) → x < 2 ^ 18 → y < 2 ^ 18 → greater x y < 2 ^ 18
greater_word x y h k = ⊎_elim (λ e. subst (λ (v : ℕ). v < 2 ^ 18) (sym e) h) (λ e. subst (λ (v : ℕ). v < 2 ^ 18) (sym e) k) (greater_one x y)

-- ---- tries at corners

module _ (operation : Operation) (number : Operands → ℤ) (a_ends m_ends : Ends) (is_exact : IsExact operation number a_ends m_ends) where
  pub word_tried : (c : Operands) (w : ℕ) → IsOperands a_ends m_ends c → tried operation c ≡ Ok w → w < 2 ^ 18
  word_tried c w is ok = subst (λ (v : ℕ). v < 2 ^ 18) (tried_word operation c w ok) (is_exact.word c is)

  module _ (low high : Operands) (is_span : IsSpan number a_ends m_ends low high) where
    span_of : (greatest least : Result ℕ Operands) → tried operation high ≡ greatest → tried operation low ≡ least
        → (answer : Result Range Operands) × IsSpanned greatest least answer
    span_of (Err e) least h k = (Err e, refl)
    span_of (Ok greatest) (Err e) h k = (Err e, refl)
    span_of (Ok greatest) (Ok least) h k =
        let range = some_range least greatest (word_tried low least is_span.low_is k) (word_tried high greatest is_span.high_is h)
        (spanned_ordered operation number a_ends m_ends low high is_exact is_span least greatest k h) in
        (Ok range.0, range.1)

    -- what is made of the words at two corners
    pub span_answer : (answer : Result Range Operands) × Answers range_meaning operation (λ a m. high ∷ low ∷ []) a_ends m_ends answer
    span_answer =
        let spanned = span_of (tried operation high) (tried operation low) refl refl in (
          spanned.0,
          spanned_answers operation number a_ends m_ends low high is_exact is_span (tried operation high) (tried operation low) refl refl spanned.0 spanned.1,
        )

  module _ (c1 c2 c3 c4 : Operands) (cornered : IsCornered number a_ends m_ends c1 c2 c3 c4) where
    around_of : (t1 t2 t3 t4 : Result ℕ Operands) → tried operation c1 ≡ t1 → tried operation c2 ≡ t2 → tried operation c3 ≡ t3
        → tried operation c4 ≡ t4 → (answer : Result Range Operands) × IsAround t1 t2 t3 t4 answer
    around_of (Err e) t2 t3 t4 h1 h2 h3 h4 = (Err e, refl)
    around_of (Ok w1) (Err e) t3 t4 h1 h2 h3 h4 = (Err e, refl)
    around_of (Ok w1) (Ok w2) (Err e) t4 h1 h2 h3 h4 = (Err e, refl)
    around_of (Ok w1) (Ok w2) (Ok w3) (Err e) h1 h2 h3 h4 = (Err e, refl)
    around_of (Ok w1) (Ok w2) (Ok w3) (Ok w4) h1 h2 h3 h4 =
        let is1 = word_tried c1 w1 cornered.is1 h1 in
        let is2 = word_tried c2 w2 cornered.is2 h2 in
        let is3 = word_tried c3 w3 cornered.is3 h3 in
        let is4 = word_tried c4 w4 cornered.is4 h4 in
        let range = some_range (lesser (lesser w1 w2) (lesser w3 w4)) (greater (greater w1 w2) (greater w3 w4))
        (lesser_word (lesser w1 w2) (lesser w3 w4) (lesser_word w1 w2 is1 is2) (lesser_word w3 w4 is3 is4))
        (greater_word (greater w1 w2) (greater w3 w4) (greater_word w1 w2 is1 is2) (greater_word w3 w4 is3 is4))
        (lesser_greater (lesser w1 w2) (greater w1 w2) (lesser w3 w4) (greater w3 w4) (over_ordered w1 w2) (over_ordered w3 w4)) in
        (Ok range.0, range.1)

    -- what is made of the words at four corners
    pub around_answer : (answer : Result Range Operands)
        × Answers range_meaning operation (λ a m. c1 ∷ c2 ∷ c3 ∷ c4 ∷ []) a_ends m_ends answer
    around_answer =
        let around = around_of (tried operation c1) (tried operation c2) (tried operation c3) (tried operation c4) refl refl refl refl in (
          around.0,
          around_answers operation number a_ends m_ends c1 c2 c3 c4 is_exact cornered
              (tried operation c1) (tried operation c2) (tried operation c3) (tried operation c4) refl refl refl refl around.0 around.1,
        )
