-- How a decimal is written, forwards from the decimal: a sign, digits with a point or without, an exponent of ten
-- after an E, a scale after a B.
use Rattle.std.specs.Prelude.{◌≡◌, ℕ, ◌+◌, ◌-◌, ◌*◌, ◌⊎◌, Bool, true, false, ◌&&◌, nat_lt, ℤ, pos, ◌-ℤ◌, List, [], ◌∷◌, ◌++◌, length, IsTrue}
use Rattle.std.specs.List.{list_all}
use Rattle.ags_decimal.specs.Decimal.{Parts, IsWithinLimits, signed}

-- a decimal digit
abbrev pub is_digit : ℕ → Bool
is_digit b = nat_lt 47 b && nat_lt b 58

-- one digit or more, and so many at most
abbrev pub are_digits : (most : ℕ) → List ℕ → Bool
are_digits most text = list_all is_digit text && (nat_lt 0 (length text) && nat_lt (length text) (most + 1))

-- the number that digits write after those of another number
abbrev pub number_after : ℕ → List ℕ → ℕ
number_after n [] = n
number_after n (b ∷ text) = number_after (n * 10 + (b - 48)) text

-- the number that digits write
abbrev pub digits_number : List ℕ → ℕ
digits_number text = number_after 0 text

-- the text is a sign, or nothing: a minus where the number is negative, and else a plus or nothing
abbrev pub IsSign : (negative : Bool) → List ℕ → Type 0
IsSign true text = text ≡ 45 ∷ []
IsSign false text = (text ≡ []) ⊎ (text ≡ 43 ∷ [])

-- the text is an optional sign and one or two digits, and writes that number
pub record IsSigned (text : List ℕ) (number : ℤ) : Type 0 where
  pub negative : Bool
  pub sign : List ℕ
  pub digits : List ℕ
  pub whole : text ≡ sign ++ digits
  pub is_sign : IsSign negative sign
  pub are_digits : IsTrue (are_digits 2 digits)
  pub value : number ≡ signed negative (digits_number digits)

-- the text is a mark and a signed number, or it is empty and the number is the usual one
abbrev pub IsMarked : (mark : ℕ) (usual : ℤ) → List ℕ → ℤ → Type 0
IsMarked mark usual text number = ((text ≡ []) × (number ≡ usual)) ⊎ ((behind : List ℕ) × (text ≡ mark ∷ behind) × IsSigned behind number)

-- The text is these digits, of which so many stand after a point; without a point none does.
abbrev pub IsPointed : (digits : List ℕ) (places : ℕ) → List ℕ → Type 0
IsPointed digits places text = ((text ≡ digits) × (places ≡ 0))
    ⊎ ((before behind : List ℕ) × (digits ≡ before ++ behind) × (places ≡ length behind) × (text ≡ before ++ 46 ∷ behind))

-- The text writes the decimal: a sign or none, one to ten digits with one point at most, an E with an exponent or none,
-- a B with a scale or none. The power of ten is the exponent less the number of digits after the point. Without an E
-- the exponent is 0, and without a B the scale is 17.
pub record Spells (text : List ℕ) (parts : Parts) : Type 0 where
  pub sign : List ℕ
  pub number : List ℕ
  pub exponent_part : List ℕ
  pub scale_part : List ℕ
  pub whole : text ≡ (sign ++ number ++ exponent_part) ++ scale_part
  pub is_sign : IsSign parts.negative sign
  pub digits : List ℕ
  pub places : ℕ
  pub is_number : IsPointed digits places number
  pub are_digits : IsTrue (are_digits 10 digits)
  pub digits_are : parts.digits ≡ digits_number digits
  pub exponent : ℤ
  pub is_exponent : IsMarked 69 (pos 0) exponent_part exponent
  pub power_is : parts.power ≡ exponent -ℤ pos places
  pub is_scale : IsMarked 66 (pos 17) scale_part parts.scale
  pub limits : IsWithinLimits parts
