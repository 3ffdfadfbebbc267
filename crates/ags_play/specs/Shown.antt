-- What is shown of the machine, a line each.
use Rattle.std.specs.Prelude.{ℕ, Bool, true, false, List, ◌++◌, codes}
use Rattle.ags_text.specs.Numeral.{numeral, octal4_text, octal6_text}
use Rattle.ags_ports.specs.declared.events.Phase.{Phase}
use Rattle.ags_ports.specs.declared.events.Phase.TheVariants.{Running, Waiting, Halted}
use Rattle.ags_ports.specs.State.{State}

-- the indicator as a digit: 1 where it is set
abbrev pub indicator_text : Bool → List ℕ
indicator_text true = codes "1"
indicator_text false = codes "0"

-- the phase as a letter
abbrev pub phase_text : Phase → List ℕ
phase_text Running = codes "R"
phase_text Waiting = codes "W"
phase_text Halted = codes "H"

-- the registers: A and Q as six octal digits each, the index register as one, the indicator, the location as four
-- octal digits, and the phase
unfoldable pub reg_text : State → List ℕ
reg_text s =
    codes "A " ++ octal6_text s.a ++ codes " Q " ++ octal6_text s.q ++ codes " X " ++ numeral 8 1 s.index
    ++ codes " V " ++ indicator_text s.indicator ++ codes " P " ++ octal4_text s.location ++ codes " " ++ phase_text s.phase

-- a cell: its address and its word
unfoldable pub cell_text : (address word : ℕ) → List ℕ
cell_text address word = codes "CELL " ++ octal4_text address ++ codes " " ++ octal6_text word

-- an output register: its address and its word
unfoldable pub output_text : (address word : ℕ) → List ℕ
output_text address word = codes "OUT " ++ octal4_text address ++ codes " " ++ octal6_text word
