-- What a reader makes of lines.
use Rattle.std.specs.Prelude.{ℕ, List, [], ◌∷◌}
use Rattle.ags_text.specs.Line.{LineAt}

-- These are the readings of lines, one for each, where that is what it means to read one.
abbrev pub AreReadingsBy : {R : Type 0} → (List ℕ → R → Type 0) → List LineAt → List R → Type 0
AreReadingsBy Reads [] [] = Unit {0}
AreReadingsBy Reads (line ∷ lines) (reading ∷ readings) = Reads line.bytes reading × AreReadingsBy Reads lines readings
AreReadingsBy Reads [] (reading ∷ readings) = ⊥
AreReadingsBy Reads (line ∷ lines) [] = ⊥
