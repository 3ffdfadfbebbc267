-- Numbers as digits: the texts of a fixed width that are printed, and what the digits of a text write.
use Rattle.std.specs.Prelude.{◌≡◌, ℕ, ◌+◌, ◌/◌, ◌%◌, ◌≤◌, ◌&&◌, Bool, nat_lt, List, [], ◌∷◌, ◌++◌, length, Option, Some, None, if◌then◌else◌}
use Rattle.std.proofs.Common.{zero, suc}
use Rattle.std.specs.Char.{digit_value}
use Rattle.std.specs.List.{list_all}
use Rattle.std.specs.Str.Parse.{AllDigits, IsNumeral, digits_value}

-- a decimal digit, as ASCII has it
abbrev pub is_digit : ℕ → Bool
is_digit b = nat_lt 47 b && nat_lt b 58

-- the last `width` digits of a number in a base of at most ten, the most significant first
unfoldable pub numeral : (base width n : ℕ) → List ℕ
numeral base zero n = []
numeral base (suc width) n = numeral base width (n / base) ++ (48 + n % base) ∷ []

-- seven decimal digits, as a card's number is printed
abbrev pub decimal7_text : ℕ → List ℕ
decimal7_text n = numeral 10 7 n

-- four octal digits, as a location is printed
abbrev pub octal4_text : ℕ → List ℕ
octal4_text n = numeral 8 4 n

-- six octal digits, as a word is printed
abbrev pub octal6_text : ℕ → List ℕ
octal6_text n = numeral 8 6 n

-- the text is one digit of the base or more, `most` of them at most, and they write the number
pub record IsNumber (base most : ℕ) (text : List ℕ) (number : ℕ) : Type 0 where
  pub digits : IsNumeral base text
  pub fits : length text ≤ most
  pub value : number ≡ digits_value base text

-- so with octal digits
abbrev pub IsOctal : (most : ℕ) → List ℕ → ℕ → Type 0
IsOctal most text number = IsNumber 8 most text number

-- and with decimal ones
abbrev pub IsDecimal : (most : ℕ) → List ℕ → ℕ → Type 0
IsDecimal most text number = IsNumber 10 most text number

-- the number that such a text writes, and nothing for any other text
unfoldable pub number_of : (base most : ℕ) → List ℕ → Option ℕ
number_of base most text = if list_all (λ b. nat_lt (digit_value b) base) text && (nat_lt 0 (length text) && nat_lt (length text) (most + 1)) then Some (digits_value base text) else None

-- the text is so many digits of the base, and they write the number
pub record Writes (base width : ℕ) (text : List ℕ) (number : ℕ) : Type 0 where
  pub length : length text ≡ width
  pub digits : AllDigits base text
  pub value : digits_value base text ≡ number
