-- Ranges: the words between two ends, by value.
use Rattle.std.specs.Prelude.{◌≡◌, ℕ, Bool, true, ◌&&◌, ℤ, ◌≤ℤ◌, ◌<ℤ◌, Option, Some, None, if◌then◌else◌}
use Rattle.std.specs.Int.RustNames.{int_le}
use Rattle.ags_word.specs.Word.{val, fits, wrap}
use Rattle.ags_domain.specs.Domain.{Ends, Meaning, Ranged}
use Rattle.ags_domain.specs.declared.ranges.Range.{Range}

-- the value of the word lies between those of the ends, or is one of them
abbrev pub lies_between : Ends → ℕ → Bool
lies_between ends word = int_le (val ends.least) (val word) && int_le (val word) (val ends.greatest)

abbrev pub range_ends : Range → Ends
range_ends range = record { least = range.least; greatest = range.greatest }

abbrev pub ends_of : (least greatest : ℕ) → Ends
ends_of least greatest = record { least = least; greatest = greatest }

-- of two words that of lesser value, and that of greater value
abbrev pub lesser : ℕ → ℕ → ℕ
lesser x y = if int_le (val x) (val y) then x else y

abbrev pub greater : ℕ → ℕ → ℕ
greater x y = if int_le (val x) (val y) then y else x

-- the ends of the least interval that holds two
abbrev pub hull_of : Ends → Ends → Ends
hull_of left right = ends_of (lesser left.least right.least) (greater left.greatest right.greatest)

-- a range holds the words between its ends
abbrev pub range_meaning : Meaning Range
range_meaning = record { held = λ range word. lies_between (range_ends range) word; ends = range_ends; form = λ range. Ranged; form_of_few = Ranged }

-- the range of two values: the first isn't above the second, and both are values of words; else there is none
abbrev pub IsRangeOf : (least greatest : ℤ) → Option Range → Type 0
IsRangeOf least greatest (Some range) =
    (fits least ≡ true) × (fits greatest ≡ true) × (least ≤ℤ greatest) × (range_ends range ≡ record { least = wrap least; greatest = wrap greatest })
IsRangeOf least greatest None = (fits least ≡ true) → (fits greatest ≡ true) → greatest <ℤ least
