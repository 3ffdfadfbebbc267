-- What comes of one line, and of the end of a text.
use Rattle.std.specs.Prelude.{◌≡◌, ℕ, ◌+◌, ◌-◌, ◌^◌, ◌<◌, min, Bool, true, false, List, length, Some}
use Rattle.ags_text.specs.Line.{LineAt, lines_of}
use Rattle.ags_ports.specs.Port.{Registers}
use Rattle.ags_certtext.specs.declared.cert_error.CertError.TheVariants.{At as AtLine}
use Rattle.ags_frame.specs.Reading.{Opening}
use Rattle.ags_certtext.specs.Reading.{Reading, IsFirstReading}
use Rattle.ags_certtext.specs.Text.{IsFaultyCert}
use Rattle.ags_certread.specs.Gathered.{AreTaken}
use Rattle.ags_certread.specs.Gathering.{Gathering}
use Rattle.ags_certread.specs.Kept.{KeptLines}
use Rattle.ags_certread.specs.LineTaken.{TakesLine, TellsFault, opening_fault}
use Rattle.ags_certread.specs.declared.states.State.{State}
use Rattle.ags_certread.specs.declared.states.State.TheVariants.{Open, Told, Spent}

-- what comes of the next line, after so many: what is gathered with it, and how far the reader is
abbrev pub IsNext : Registers → (number : ℕ) → (old : Gathering) → List ℕ → (new : Gathering) → State → Type 0
IsNext ports number old line new Open =
    (number ≡ 0 → (version : ℕ) × IsFirstReading line (Opening version) × (new ≡ record old { version = version }))
    × (0 < number → TakesLine ports old line new)
IsNext ports number old line new (Told l kind) =
    (number ≡ 0 → (l ≡ 1) × ((reading : Reading) × IsFirstReading line reading × (opening_fault reading ≡ Some kind)))
    × (0 < number → TellsFault ports (min (number + 1) (2 ^ 32 - 1)) old line (AtLine l kind))
IsNext ports number old line new Spent = ⊥

-- no fault was found, and no memory was wanting
abbrev pub is_open : State → Bool
is_open Open = true
is_open (Told l kind) = false
is_open Spent = false

-- what is known of the lines once one more has ended: where none was at fault, what comes of it; otherwise what was known before
abbrev pub GoesOn : State → (old : KeptLines) → List ℕ → (new : KeptLines) → Type 0
GoesOn Open old line new = IsNext old.ports old.number old.gathered line new.gathered new.state × (new.number ≡ min (old.number + 1) (2 ^ 32 - 1))
GoesOn (Told l kind) old line new = new ≡ old
GoesOn Spent old line new = new ≡ old

-- all lines of a text, so many, were taken without a fault
pub record IsWhole (ports : Registers) (text : List ℕ) (g : Gathering) (number : ℕ) : Type 0 where
  pub ended : List LineAt
  pub whole : lines_of text ≡ ended
  pub taken : AreTaken ports ended g
  pub many : number ≡ length ended
  pub few : number < 2 ^ 32 - 1

-- all lines of a text have ended, none of them at fault, or this is the first fault
abbrev pub HasRead : State → KeptLines → List ℕ → Type 0
HasRead Open lines text = IsWhole lines.ports text lines.gathered lines.number
HasRead (Told l kind) lines text = IsFaultyCert lines.ports text l kind
HasRead Spent lines text = ⊥
