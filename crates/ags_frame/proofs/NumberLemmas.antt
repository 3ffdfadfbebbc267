-- Numbers of few decimal digits.
use Rattle.std.proofs.Common.{ℕ, ◌<◌, ◌≤◌, ◌^◌, List, length, arith}
use Rattle.std.proofs.Math.Nat.{pow-le-pow_right}
use Rattle.std.proofs.lemmas.Int.Digits.{digits_value-lt}
use Rattle.ags_text.specs.Numeral.{IsDecimal}

-- six decimal digits at most write a number below 1,000,000
pub small_decimal : (text : List ℕ) (size : ℕ) → IsDecimal 6 text size → size < 1000000
small_decimal text size is =
    let below : size < 10 ^ length text = rw is.value (digits_value-lt 10 text is.digits.1) in
    let most : 10 ^ length text ≤ 10 ^ 6 = pow-le-pow_right (omega arith) is.fits in
    omega arith

-- a text of few digits
pub fewer : (text : List ℕ) (size : ℕ) → length text ≤ 6 → IsDecimal 9 text size → IsDecimal 6 text size
fewer text size few is = record { digits = is.digits; fits = few; value = is.value }
