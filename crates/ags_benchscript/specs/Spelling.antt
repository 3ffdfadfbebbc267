-- How the lines of a bench script are spelled: forwards from what they ask for to the lines that spell it.
use Rattle.std.specs.Prelude.{◌≡◌, ℕ, List, [], ◌∷◌, codes}
use Rattle.ags_text.specs.Numeral.{IsDecimal}
use Rattle.ags_script.specs.declared.commands.Command.TheVariants as script
use Rattle.ags_script.specs.Spelling as spelling
use Rattle.ags_benchscript.specs.declared.commands.BenchCommand.{BenchCommand}
use Rattle.ags_benchscript.specs.declared.commands.BenchCommand.TheVariants.{Step, Pulse, Cycle, ShowReg, ShowCell, ShowOut, Feed, Detach}

-- What a line of a bench script asks for: nothing, or one command. Any other line is malformed.
pub data LineReading : Type 0 where
  Skipped : LineReading
  One : BenchCommand → LineReading
  Malformed : LineReading

-- the fields are this name and a count of one to nine decimal digits
abbrev pub StatesCount : (name : List ℕ) → List (List ℕ) → ℕ → Type 0
StatesCount name fields number = (digits : List ℕ) × IsDecimal 9 digits number × (fields ≡ name ∷ digits ∷ [])

-- The fields state this command: as in a script, or FEED or DETACH and the number of a device.
abbrev pub States : List (List ℕ) → BenchCommand → Type 0
States fields (Step count) = spelling.States fields (script.Step count)
States fields Pulse = spelling.States fields script.Pulse
States fields (Cycle count) = spelling.States fields (script.Cycle count)
States fields ShowReg = spelling.States fields script.ShowReg
States fields (ShowCell address) = spelling.States fields (script.ShowCell address)
States fields (ShowOut address) = spelling.States fields (script.ShowOut address)
States fields (Feed number) = StatesCount (codes "FEED") fields number
States fields (Detach number) = StatesCount (codes "DETACH") fields number

-- the line spells what is asked for, skipped as in a script; a malformed line spells nothing
abbrev pub Spells : List ℕ → LineReading → Type 0
Spells line Skipped = spelling.IsSkipped line
Spells line (One command) = spelling.HasForm line (λ fields. States fields command)
Spells line Malformed = ⊥
