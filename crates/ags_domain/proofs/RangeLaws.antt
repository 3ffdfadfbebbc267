-- The ends of a range from two values.
use Rattle.std.proofs.Common.{◌≡◌, ℕ, Bool, true, false, refl, sym, ap, ◌∙◌, ℤ}
use Rattle.std.specs.Prelude.{Option, Some, None}
use Rattle.ags_word.specs.Word.{val, fits, wrap, word_of_value}
use Rattle.ags_word.proofs.WordLaws.{val-wrap, word_of_value-fits, word_of_value-not}

word_none : (n : ℤ) → word_of_value n ≡ None → fits n ≡ false
word_none n h = by (fits n) refl
  where
    by : (b : Bool) → fits n ≡ b → fits n ≡ false
    by true is = let some = word_of_value-fits n is in absurd cc
    by false is = is

word_some : (n : ℤ) (w : ℕ) → word_of_value n ≡ Some w → (fits n ≡ true) × (w ≡ wrap n)
word_some n w h = by (fits n) refl
  where
    by : (b : Bool) → fits n ≡ b → (fits n ≡ true) × (w ≡ wrap n)
    by true is = let some = word_of_value-fits n is in (is, cc)
    by false is = let none = word_of_value-not n is in absurd cc

-- what is told of a value, where the number that was asked for is the value
pub value_none : {m : ℤ} (n : ℤ) (answer : Option ℕ) → m ≡ n → answer ≡ word_of_value m → answer ≡ None → fits n ≡ false
value_none n answer same is none = word_none n (ap word_of_value (sym same) ∙ sym is ∙ none)

pub value_some : {m : ℤ} (n : ℤ) (answer : Option ℕ) (w : ℕ) → m ≡ n → answer ≡ word_of_value m → answer ≡ Some w
    → (fits n ≡ true) × (w ≡ wrap n) × (val w ≡ n)
value_some n answer w same is some =
    let found = word_some n w (ap word_of_value (sym same) ∙ sym is ∙ some) in
    (found.0, found.1, rw found.1 (val-wrap n found.0))
