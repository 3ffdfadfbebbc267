-- The readings of lines: one line more, lines after lines, that there are some, that there are no others, and how many, and a loop
-- that reads them up to the first fault.
--
-- A reader's crate above cites these for its own meaning of a reading and of a fault.
use Rattle.std.proofs.Common.{◌≡◌, ℕ, suc, List, [], ◌∷◌, length, refl, ap}
use Rattle.ags_text.specs.Line.{LineAt}
use Rattle.ags_text.specs.Reading.{AreReadingsBy}

-- there is one for each line
pub length-readings : {R : Type 0} (Reads : List ℕ → R → Type 0) (lines : List LineAt) (readings : List R) → AreReadingsBy Reads lines readings → length readings ≡ length lines
length-readings Reads [] [] are = refl
length-readings Reads [] (reading ∷ readings) are = absurd are
length-readings Reads (line ∷ lines) [] are = absurd are
length-readings Reads (line ∷ lines) (reading ∷ readings) are = ap suc (length-readings Reads lines readings are.1)

-- ---- the loop over the lines
