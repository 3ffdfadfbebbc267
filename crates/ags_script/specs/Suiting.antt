-- What holds of the commands of a script that was read for a machine.
use Rattle.std.specs.Prelude.{◌≡◌, ◌<◌, ◌≤◌, ◌^◌, true, false, List, ◌++◌, All, sum_by, count_by}
use Rattle.ags_ports.specs.declared.machines.Machine.{Machine}
use Rattle.ags_script.specs.declared.commands.Command.{Command}
use Rattle.ags_script.specs.declared.commands.Command.TheVariants.{Start, Cell, Port, Set, ShowCell, ShowOut}
use Rattle.ags_script.specs.Limit.{step_limit}
use Rattle.ags_script.specs.Command.{is_start, is_setting, step_count, lacks_port}

-- the address that a command names is that of a location, of an erasable cell for CELL
abbrev pub NamesLocation : Command → Type 0
NamesLocation (Start address) = address < 4096
NamesLocation (Cell address word) = address < 2048
NamesLocation (ShowCell address) = address < 4096
NamesLocation (ShowOut address) = address < 4096
NamesLocation _ = Unit {0}

-- the word that a command sets or puts is one: it is below 2 ^ 18
abbrev pub NamesWord : Command → Type 0
NamesWord (Cell address word) = word < 2 ^ 18
NamesWord (Port address word) = word < 2 ^ 18
NamesWord (Set address word) = word < 2 ^ 18
NamesWord _ = Unit {0}

-- START, CELL and PORT come first
pub record AreOrdered (commands : List Command) : Type 0 where
  pub settings : List Command
  pub others : List Command
  pub whole : commands ≡ settings ++ others
  pub first : All (λ command. is_setting command ≡ true) settings
  pub behind : All (λ command. is_setting command ≡ false) others

-- The machine has each register that is named, each address is one of a location, each word that is set or put is below
-- 2 ^ 18, the steps are no more than a script may have, the settings come first, and there is one START at most.
pub record Suits (machine : Machine) (commands : List Command) : Type 0 where
  pub ports : All (λ command. lacks_port machine command ≡ false) commands
  pub locations : All NamesLocation commands
  pub words : All NamesWord commands
  pub steps : sum_by step_count commands ≤ step_limit
  pub ordered : AreOrdered commands
  pub starts : count_by is_start commands ≤ 1
