-- The numbers of a card: how large a decimal is, and the word of a negated octal.
use Rattle.std.proofs.Common.{◌≡◌, ℕ, ◌<◌, ◌≤◌, ◌^◌, true, List, Option, Some, None, sym, ap, ◌∙◌, inl, inr, refl, arith, pos}
use Rattle.std.specs.Prelude.{neg_ℤ, IfSome}
use Rattle.std.specs.Option.{option_map}
use Rattle.std.proofs.lemmas.Bool.{cases_lt}
use Rattle.std.proofs.lemmas.Int.{ints}
use Rattle.ags_text.specs.Numeral.{IsDecimal, number_of}
use Rattle.ags_text.proofs.NumberLaws.{number_told, number_below}
use Rattle.ags_word.specs.Word.{val, wrap}
use Rattle.ags_word.proofs.WordLaws.{val-low, val-high, wrap_same}
use Rattle.ags_card.specs.Spelling.{signed_word}

-- ---- decimals

pub small_decimal : (text : List ℕ) (number : ℕ) → IsDecimal 6 text number → number ≤ 999999
small_decimal text number is = let below : number < 10 ^ 6 = number_below 10 6 text number (omega arith) is in omega (arith, below)

pub small_read : (text : List ℕ) (result : Option ℕ) → result ≡ number_of 10 6 text → IfSome result (λ number. number ≤ 999999)
small_read text None same = tt
small_read text (Some number) same = small_decimal text number (number_told 10 6 text number (sym same))

-- ---- the word of a negated octal

-- the negative of a word's value leaves the word of the negated number
pub wrap-negative : (w : ℕ) → w < 2 ^ 18 → wrap (neg_ℤ (val w)) ≡ wrap (neg_ℤ (pos w))
wrap-negative w small =
    elim (cases_lt w (2 ^ 17)) [
      | inl low ↦ rw (val-low w low) refl
      | inr high ↦ let is = val-high w high in wrap_same (neg_ℤ (val w)) (neg_ℤ (pos w)) (record { times = pos 1; differ = omega (arith, ints, is) })
    ]

-- the word of a number that is taken from zero
pub negated_word : (found : Option ℕ) (number w word : ℕ) → Some number ≡ found → number < 2 ^ 18 → number ≡ w → word ≡ wrap (neg_ℤ (val w)) → Some word ≡ option_map (signed_word true) found
negated_word found number w word found_is small same is = rw (← found_is) (ap Some (is ∙ wrap-negative w (omega (arith, small, same)) ∙ ap (λ n. wrap (neg_ℤ (pos n))) (sym same)))
