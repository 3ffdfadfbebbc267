-- Numbers of a fixed width, as a script's addresses and words are.
use Rattle.std.proofs.Common.{◌≡◌, ℕ, ◌<◌, ◌^◌, ◌==◌, true, List, length, Option, Some, inl, inr, arith}
use Rattle.std.specs.Prelude.{IfSome}
use Rattle.std.proofs.lemmas.Bool.{cases_Bool, eqb-true}
use Rattle.std.proofs.lemmas.Bool.Decides.{nat_tests}
use Rattle.ags_text.specs.Numeral.{IsOctal, Writes}
use Rattle.ags_text.proofs.Deciding.{same_answer}
use Rattle.ags_text.proofs.NumberLaws.{number_told, number_written, number_below, writes_number, number_writes}
use Rattle.ags_script.specs.Operand.{octal_of}

-- so many octal digits are what they write
pub octal_tells : (width : ℕ) (text : List ℕ) (number : ℕ) → octal_of width text ≡ Some number → Writes 8 width text number
unfolding octal_of
octal_tells width text number is =
    elim (cases_Bool (length text == width)) [
      | inl all ↦ number_writes 8 width width text number (eqb-true (length text) width all) (number_told 8 width text number (rw all at is))
      | inr other ↦ let none = rw other at is in absurd (cc)
    ]

same_length : (m n : ℕ) → m ≡ n → (m == n) ≡ true
same_length m n is = grind (arith, nat_tests)

pub octal_finds : (width : ℕ) (text : List ℕ) (number : ℕ) → 0 < width → Writes 8 width text number → octal_of width text ≡ Some number
unfolding octal_of
octal_finds width text number some is = rw (same_length (length text) width is.length) (number_written 8 width text number (writes_number 8 width text number some is))

-- so an answer that is the written number, and the only one, is the number of the text
pub octal_read : (width : ℕ) (text : List ℕ) (result : Option ℕ) → 0 < width → IfSome result (λ number. Writes 8 width text number)
    → ((number : ℕ) → Writes 8 width text number → result ≡ Some number) → result ≡ octal_of width text
octal_read width text result some found only =
    same_answer (Writes 8 width text) result (octal_of width text) found only (octal_tells width text) (λ number is. octal_finds width text number some is)

-- four octal digits write a number below 4096
pub small_octal : (text : List ℕ) (number : ℕ) → length text ≡ 4 → IsOctal 6 text number → number < 4096
small_octal text number four is =
    number_below 8 4 text number (omega arith) (record { digits = is.digits; fits = omega (arith, four); value = is.value })

pub small_address : (text : List ℕ) (number : ℕ) → Writes 8 4 text number → number < 4096
small_address text number is = number_below 8 4 text number (omega arith) (writes_number 8 4 text number (omega arith) is)

pub small_word : (text : List ℕ) (number : ℕ) → Writes 8 6 text number → number < 2 ^ 18
small_word text number is = number_below 8 6 text number (omega arith) (writes_number 8 6 text number (omega arith) is)
