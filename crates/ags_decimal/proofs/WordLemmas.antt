-- A size that is too large for a word, and bounds of powers.
use Rattle.std.proofs.Common.{◌≡◌, ℕ, suc, ◌<◌, ◌≤◌, ◌^◌, Bool, true, false, inl, inr, arith, pos}
use Rattle.std.specs.Prelude.{neg_ℤ, None}
use Rattle.std.proofs.lemmas.Int.{ints}
use Rattle.std.proofs.lemmas.Bool.{cases_Bool}
use Rattle.std.proofs.Math.Nat.{pow-le-pow_right}
use Rattle.ags_word.specs.Word.{fits, word_of_value}
use Rattle.ags_word.proofs.WordLaws.{word_of_value-not, fits_least, fits_most}
use Rattle.ags_decimal.specs.Decimal.{signed}

-- a size above 2 ^ 17 is no word's, with either sign
pub signed_over : (negative : Bool) (size : ℕ) → 131072 < size → word_of_value (signed negative size) ≡ None
signed_over true size over =
    elim (cases_Bool (fits (neg_ℤ (pos size)))) [
      | inl fit ↦ let least = fits_least (neg_ℤ (pos size)) fit in absurd (omega (arith, ints, least))
      | inr not ↦ word_of_value-not (neg_ℤ (pos size)) not
    ]
signed_over false size over =
    elim (cases_Bool (fits (pos size))) [
      | inl fit ↦ let most = fits_most (pos size) fit in absurd (omega (arith, ints, most))
      | inr not ↦ word_of_value-not (pos size) not
    ]

-- what is at most a power is at most one with a greater exponent
pub up_to_power : (base most n count : ℕ) → 0 < base → n ≤ base ^ count → count ≤ most → n ≤ base ^ most
up_to_power base most n count some less few =
    let more : base ^ count ≤ base ^ most = pow-le-pow_right some few in
    omega arith

pub below_tens : (n count most : ℕ) → n < 10 ^ count → count ≤ most → n < 10 ^ most
below_tens n count most is few = up_to_power 10 most (suc n) count (omega arith) is few
