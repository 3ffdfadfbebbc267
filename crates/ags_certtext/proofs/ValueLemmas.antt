-- The ends of a range, and that a value has one statement.
use Rattle.std.proofs.Common.{◌≡◌, ℕ, true, false, List, Option, Some, None, sym, ap, ◌∙◌, inl, inr, arith}
use Rattle.std.specs.Prelude.{ℤ}
use Rattle.std.proofs.lemmas.Int.{ints}
use Rattle.std.proofs.lemmas.Bool.{cases_Bool}
use Rattle.ags_word.specs.Word.{fits, word_of_value}
use Rattle.ags_word.proofs.WordLaws.{word_of_value-fits, word_of_value-not}
use Rattle.ags_domain.specs.Domain.{Ends, IsFull}
use Rattle.ags_domain.specs.Range.{IsRangeOf}
use Rattle.ags_domain.specs.Value.{value_meaning}
use Rattle.ags_domain.specs.WordSet.{lists}
use Rattle.ags_domain.specs.MeaningLaws.{value_lawful, range_same, set_same}
use Rattle.ags_domain.specs.declared.ranges.Range.{Range as RangeOf}
use Rattle.ags_domain.specs.declared.word_sets.WordSet.{WordSet}
use Rattle.ags_domain.specs.declared.values.Value.{Value}
use Rattle.ags_domain.specs.declared.values.Value.TheVariants.{Range, Words}
use Rattle.ags_certtext.specs.Front.{IsEveryWord, IsValueBetween, IsSetFront}

-- a number that is a word's value fits, and no other does
pub value_fits : (n : ℤ) (word : ℕ) → word_of_value n ≡ Some word → fits n ≡ true
value_fits n word is =
    elim (cases_Bool (fits n)) [
      | inl fit ↦ fit
      | inr over ↦ let none = word_of_value-not n over in absurd (cc)
    ]

pub no_value : (n : ℤ) → word_of_value n ≡ None → fits n ≡ true → ⊥
no_value n none fit = let some = word_of_value-fits n fit in absurd (cc)

pub value_over : (n : ℤ) → None ≡ word_of_value n → false ≡ fits n
value_over n none =
    elim (cases_Bool (fits n)) [
      | inl fit ↦ absurd (no_value n (sym none) fit)
      | inr over ↦ sym over
    ]

-- there is one value of every word
pub every_one : (value : Option Value) (every : Value) → IsEveryWord value → IsFull value_meaning every → value ≡ Some every
every_one value every is full =
    is.value_is ∙ ap (λ (v : Value). Some v) (value_lawful.one is.every every (is.full.kept ∙ sym full.kept) (λ w word. is.full.every w word ∙ sym (full.every w word)))

-- one range between two ends
pub range_one : (least greatest : ℤ) (value : Option Value) (range : RangeOf) → IsRangeOf least greatest (Some range) → IsValueBetween least greatest value → value ≡ Some (Range range)
range_one least greatest (Some (Range other)) range is found =
    let ends = found.3 ∙ sym is.3 in
    ap (λ (r : RangeOf). Some (Range r)) (range_same other range (ap (λ (e : Ends). e.least) ends) (ap (λ (e : Ends). e.greatest) ends))
range_one least greatest (Some (Words set)) range is found = absurd found
range_one least greatest None range is found = absurd (omega (arith, ints, is.2, found))

-- one set of some words
pub set_one : (set : WordSet) (words behind : List ℕ) (value : Option Value) (rest : List ℕ) → set.list ≡ words → IsSetFront words behind value rest
    → (Some (Words set) ≡ value) × (behind ≡ rest)
set_one set words behind value rest list is = (
  ap (λ (s : WordSet). Some (Words s)) (set_same set is.set (λ w word. ap (λ (l : List ℕ). lists l w) (list ∙ sym is.list_is))) ∙ sym is.value_is,
  is.rest_is,
)
