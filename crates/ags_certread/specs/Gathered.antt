-- Lines that were taken one after the other, and what was gathered of them.
use Rattle.std.specs.Prelude.{◌≡◌, ℕ, List, [], ◌∷◌}
use Rattle.ags_text.specs.Line.{LineAt}
use Rattle.ags_ports.specs.Port.{Registers}
use Rattle.ags_frame.specs.Reading.{Opening}
use Rattle.ags_certtext.specs.Reading.{IsFirstReading}
use Rattle.ags_certread.specs.Before.{IsOfStatements}
use Rattle.ags_certread.specs.Gathering.{Gathering, nothing_stated, opened}
use Rattle.ags_certread.specs.LineTaken.{TakesLine}
use Rattle.ags_certread.specs.declared.states.State.{State}
use Rattle.ags_certread.specs.declared.states.State.TheVariants.{Open, Told, Spent}

-- further lines were taken without a fault, from what was gathered before them
abbrev pub Gathers : Registers → (old : Gathering) → List LineAt → (new : Gathering) → Type 0
Gathers ports old [] new = new ≡ old
Gathers ports old (line ∷ lines) new = (mid : Gathering) × TakesLine ports old line.bytes mid × Gathers ports mid lines new

-- the line opens a certificate of a version
abbrev pub IsOpening : LineAt → (version : ℕ) → Type 0
IsOpening line version = IsFirstReading line.bytes (Opening version)

-- the first lines of a text were taken without a fault, of which the very first opens its version
abbrev pub AreTaken : Registers → List LineAt → Gathering → Type 0
AreTaken ports [] g = g ≡ nothing_stated
AreTaken ports (first ∷ more) g = (version : ℕ) × IsOpening first version × Gathers ports (opened version) more g

-- what is kept is of some statements where no fault was found
abbrev pub IsStateOfStatements : Gathering → State → Type 0
IsStateOfStatements g Open = IsOfStatements g
IsStateOfStatements g (Told line kind) = Unit {0}
IsStateOfStatements g Spent = Unit {0}
