-- What a script asks for, act by act: a flat list, in which a line of cycles is no more than its cycles one after another.
use Rattle.std.specs.Prelude.{ℕ, zero, suc, List, [], ◌∷◌, flat_map}
use Rattle.ags_deda.specs.declared.keys.Key.{Key}
use Rattle.ags_script.specs.declared.commands.Command.{Command}
use Rattle.ags_script.specs.declared.commands.Command.TheVariants.{Step, Pulse, Set, Press, Feed, Cycle, ShowReg, ShowCell, ShowOut, ShowDeda}

-- An act: so many steps; a pulse; a word is put into an input register; a key is pressed; a digit of the panel is fed, in
-- each state or only where its register's word is 0; steps for the time of a cycle; and a line that shows the registers, a
-- cell, an output register or the panel.
pub data Act : Type 0 where
  MakesSteps : ℕ → Act
  Pulses : Act
  Puts : (address word : ℕ) → Act
  Presses : Key → Act
  Feeds : Act
  FeedsWhereZero : Act
  RunsCycle : Act
  ShowsReg : Act
  ShowsCell : ℕ → Act
  ShowsOut : ℕ → Act
  ShowsDeda : Act

-- so many cycles: each feeds where the register's word is 0, gives a pulse, and makes steps for its time
abbrev pub cycles : ℕ → List Act
cycles zero = []
cycles (suc count) = FeedsWhereZero ∷ Pulses ∷ RunsCycle ∷ cycles count

-- the acts of a command; START, CELL and PORT say what is there before the first act, and have none
abbrev pub acts_of_command : Command → List Act
acts_of_command (Step count) = MakesSteps count ∷ []
acts_of_command Pulse = Pulses ∷ []
acts_of_command (Set address word) = Puts address word ∷ []
acts_of_command (Press key) = Presses key ∷ []
acts_of_command Feed = Feeds ∷ []
acts_of_command (Cycle count) = cycles count
acts_of_command ShowReg = ShowsReg ∷ []
acts_of_command (ShowCell address) = ShowsCell address ∷ []
acts_of_command (ShowOut address) = ShowsOut address ∷ []
acts_of_command ShowDeda = ShowsDeda ∷ []
acts_of_command _ = []

-- the acts of a script, those of each command after those of the one before it
abbrev pub acts_of : List Command → List Act
acts_of commands = flat_map acts_of_command commands
