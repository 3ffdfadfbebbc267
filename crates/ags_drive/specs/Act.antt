-- What a bench script asks for, act by act: a flat list, in which a line of cycles is no more than its cycles one after another.
-- Each act puts one word at most, and prints one line at most.
use Rattle.std.specs.Prelude.{ℕ, zero, suc, List, [], ◌∷◌, ◌++◌, replicate, flat_map}
use Rattle.ags_benchscript.specs.declared.commands.BenchCommand.{BenchCommand}
use Rattle.ags_benchscript.specs.declared.commands.BenchCommand.TheVariants.{Step, Pulse, Cycle, ShowReg, ShowCell, ShowOut, Feed, Detach}

-- An act: a step; a pulse; steps for the time of a cycle; the device with a number is fed, as a line of the script asks; the device
-- at a position is fed as a cycle feeds it; a line that shows the registers, a cell or an output register; the device with a number
-- leaves, as a line asks; and, at the end, a line that tells of the device at a position.
pub data Act : Type 0 where
  MakesStep : Act
  Pulses : Act
  RunsCycle : Act
  Feeds : (line number : ℕ) → Act
  FeedsInCycle : (position : ℕ) → Act
  ShowsReg : Act
  ShowsCell : (address : ℕ) → Act
  ShowsOut : (address : ℕ) → Act
  Detaches : (line number : ℕ) → Act
  ShowsDevice : (position : ℕ) → Act

-- an act for each position below a count, in order
abbrev pub at_each : (ℕ → Act) → ℕ → List Act
at_each act zero = []
at_each act (suc count) = at_each act count ++ act count ∷ []

-- The acts of so many cycles over so many positions: each feeds the devices in order, gives a pulse, and makes steps for its time.
abbrev pub cycles : (positions : ℕ) → ℕ → List Act
cycles positions zero = []
cycles positions (suc count) = (at_each FeedsInCycle positions ++ Pulses ∷ RunsCycle ∷ []) ++ cycles positions count

-- The acts of a line's command, over as many positions as devices were handed in: at a position that has no device any more an act does
-- nothing.
abbrev pub acts_of_command : (positions line : ℕ) → BenchCommand → List Act
acts_of_command positions line (Step count) = replicate count MakesStep
acts_of_command positions line Pulse = Pulses ∷ []
acts_of_command positions line (Cycle count) = cycles positions count
acts_of_command positions line ShowReg = ShowsReg ∷ []
acts_of_command positions line (ShowCell address) = ShowsCell address ∷ []
acts_of_command positions line (ShowOut address) = ShowsOut address ∷ []
acts_of_command positions line (Feed number) = Feeds line number ∷ []
acts_of_command positions line (Detach number) = Detaches line number ∷ []

-- the acts of a script's lines, those of each after those of the one before it
abbrev pub acts_of : (positions : ℕ) → List (ℕ × BenchCommand) → List Act
acts_of positions lines = flat_map (λ (line : ℕ × BenchCommand). acts_of_command positions line.0 line.1) lines

-- all acts of a script: those of its lines, and at the end a line for each device that is left
abbrev pub acts_of_script : (positions : ℕ) → List (ℕ × BenchCommand) → List Act
acts_of_script positions lines = acts_of positions lines ++ at_each ShowsDevice positions
