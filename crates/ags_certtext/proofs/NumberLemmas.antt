-- Numbers of a fixed width.
use Rattle.std.proofs.Common.{◌≡◌, ℕ, ◌<◌, ◌^◌, List, length, ap, arith}
use Rattle.std.proofs.lemmas.Int.Digits.{digits_value-lt}
use Rattle.ags_text.specs.Numeral.{IsOctal}

-- four octal digits write a number below 4096
pub small_octal : (text : List ℕ) (number : ℕ) → length text ≡ 4 → IsOctal 6 text number → number < 4096
small_octal text number four is =
    let below : number < 8 ^ length text = rw is.value (digits_value-lt 8 text is.digits.1) in
    let same : 8 ^ length text ≡ 4096 = ap (λ n. 8 ^ n) four in
    omega arith
