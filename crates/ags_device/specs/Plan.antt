-- The words that the kinds of devices will give.
use Rattle.std.specs.Prelude.{ℕ, zero, suc, ◌+◌, List, [], ◌∷◌, pos, ◌+ℤ◌, ◌*ℤ◌}
use Rattle.ags_word.specs.Word.{val, wrap}

-- the reading of a ramp at a position, which counts from 0: the word that is left of the first value and so many times the value
-- by which it goes on
abbrev pub reading : (first by position : ℕ) → ℕ
reading first by position = wrap (val first +ℤ pos position *ℤ val by)

-- so many readings of a ramp, from a position on
abbrev pub readings : (first by position count : ℕ) → List ℕ
readings first by position zero = []
readings first by position (suc more) = reading first by position ∷ readings first by (position + 1) more

-- the word that a pad gives for a digit
abbrev pub digit_word : (digit : ℕ) → ℕ
digit_word digit = 16 + digit
