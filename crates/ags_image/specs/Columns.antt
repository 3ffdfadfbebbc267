-- The columns of a line that have a place and a word.
use Rattle.std.specs.Prelude.{ℕ, Bool, true, ◌&&◌, nat_lt, List, [], ◌∷◌, Option, Some, None, if◌then◌else◌}
use Rattle.std.specs.Char.{digit_value}
use Rattle.std.specs.Str.Parse.{digits_value}
use Rattle.ags_image.specs.Image.{PlacedWord}

-- digits of the base alone
abbrev pub are_digits : (base : ℕ) → List ℕ → Bool
are_digits base [] = true
are_digits base (b ∷ text) = nat_lt (digit_value b) base && are_digits base text

-- the word at the place that two columns write, where both have octal digits alone
unfoldable pub placed_in : (place word : List ℕ) → Option PlacedWord
placed_in place word =
    if are_digits 8 place && are_digits 8 word then Some (record { place = digits_value 8 place; word = digits_value 8 word }) else None
