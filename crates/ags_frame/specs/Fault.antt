-- The faults that a text's frame decides alone, by the text's own kinds of faults.
use Rattle.std.specs.Prelude.{ℕ, Bool, false, List, [], ◌∷◌, Option, Some, None, if◌then◌else◌}
use Rattle.std.specs.List.{filter_map}
use Rattle.ags_frame.specs.Reading.{Reading, Opening, OtherOpening, Stated, Skipped, Malformed, Ended, statement_of}

-- How a text tells faults: that a line is none of the forms or that its end is missing, that it is of another version, which
-- statement ends it, and the fault of a statement in a text of a version, given those before it, nearest first.
pub record Faults (S F : Type 0) : Type 0 where
  pub bad_line : F
  pub version : F
  pub is_end : S → Bool
  pub fault_after : (version : ℕ) → List S → S → Option F

-- the version that the first line opened, by the readings before, nearest first; 0 where none of them opens one
abbrev pub version_of : {S : Type 0} → List (Reading S) → ℕ
version_of [] = 0
version_of (Opening version ∷ before) = version
version_of (_ ∷ before) = version_of before

-- the nearest of the statements before is the one that ends the text
abbrev pub has_ended : {S : Type 0} → (is_end : S → Bool) → List S → Bool
has_ended is_end [] = false
has_ended is_end (statement ∷ before) = is_end statement

-- the fault of the end of a text after some statements: the one that ends it is missing
abbrev pub end_fault : {S F : Type 0} → Faults S F → List S → Option F
end_fault its before = if has_ended its.is_end before then None else Some its.bad_line

-- The fault of a line's reading, or of the end of the text, where the lines before it have these readings, nearest first. The end of a
-- text stands after its last line, so it is told at the number of lines plus 1.
abbrev pub reading_fault : {S F : Type 0} → Faults S F → List (Reading S) → Reading S → Option F
reading_fault its before (Opening version) = None
reading_fault its before OtherOpening = Some its.version
reading_fault its before Skipped = None
reading_fault its before Malformed = Some its.bad_line
reading_fault its before (Stated statement) = its.fault_after (version_of before) (filter_map statement_of before) statement
reading_fault its before Ended = end_fault its (filter_map statement_of before)
