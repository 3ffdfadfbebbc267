-- A decimal as it is read: cut at its marks from behind, each part then tested alone.
use Rattle.std.specs.Prelude.{ℕ, Bool, ◌&&◌, ◌||◌, ◌==◌, ℤ, pos, ◌-ℤ◌, neg_ℤ, List, ◌++◌, length, take, drop, get_or, Option, Some, None, if◌then◌else◌}
use Rattle.std.specs.Int.RustNames.{int_le}
use Rattle.std.specs.List.{position_or_len}
use Rattle.ags_decimal.specs.Decimal.{Parts, signed}
use Rattle.ags_decimal.specs.Spelling.{are_digits, digits_number}

-- the front of a text before the first such byte, or all of it
unfoldable pub front_at : ℕ → List ℕ → List ℕ
front_at mark text = take (position_or_len (λ b. b == mark) text) text

-- the text from the first such byte on, and nothing where there is none
unfoldable pub rest_at : ℕ → List ℕ → List ℕ
rest_at mark text = drop (position_or_len (λ b. b == mark) text) text

-- whether a text begins with a minus
abbrev pub begins_with_minus : List ℕ → Bool
begins_with_minus text = get_or text 0 0 == 45

-- a text without the sign at its front, if it has one
unfoldable pub behind_sign : List ℕ → List ℕ
behind_sign text = if begins_with_minus text || get_or text 0 0 == 43 then drop 1 text else text

-- the number that an optional sign and one or two digits write
unfoldable pub signed_reading : List ℕ → Option ℤ
signed_reading text = if are_digits 2 (behind_sign text) then Some (signed (begins_with_minus text) (digits_number (behind_sign text))) else None

-- the number after a mark, and another where the mark does not stand
unfoldable pub marked_reading : ℤ → List ℕ → Option ℤ
marked_reading usual rest = if length rest == 0 then Some usual else signed_reading (drop 1 rest)

-- the digits of a number with a point or without
unfoldable pub digits_of : List ℕ → List ℕ
digits_of text = front_at 46 text ++ drop 1 (rest_at 46 text)

-- how many of them stand after the point
unfoldable pub places_of : List ℕ → ℕ
places_of text = length (drop 1 (rest_at 46 text))

-- whether a number lies between two ends
abbrev pub lies_between : ℤ → ℤ → ℤ → Bool
lies_between least most n = int_le least n && int_le n most

-- a decimal of its parts, and nothing where one is out of its limits
unfoldable pub limited : Parts → Option Parts
limited parts = if lies_between (neg_ℤ (pos 12)) (pos 12) parts.power && lies_between (neg_ℤ (pos 30)) (pos 60) parts.scale then Some parts else None

-- the decimal of a number without its sign, the exponent that it is written with and its scale
abbrev pub settled_reading : Bool → List ℕ → Option ℤ → Option ℤ → Option Parts
settled_reading negative number (Some exponent) (Some scale) =
    if are_digits 10 (digits_of number)
    then limited (record { negative = negative; digits = digits_number (digits_of number); power = exponent -ℤ pos (places_of number); scale = scale })
    else None
settled_reading negative number (Some exponent) None = None
settled_reading negative number None scale = None

-- the decimal of a text before its scale
unfoldable pub reading_before_scale : List ℕ → Option ℤ → Option Parts
reading_before_scale text scale =
    settled_reading (begins_with_minus (front_at 69 text)) (behind_sign (front_at 69 text)) (marked_reading (pos 0) (rest_at 69 text)) scale

-- the decimal that a text writes, and nothing for any other text
unfoldable pub reading : List ℕ → Option Parts
reading text = reading_before_scale (front_at 66 text) (marked_reading (pos 17) (rest_at 66 text))
