-- What holds of the commands of a bench script that was read for a machine.
use Rattle.std.specs.Prelude.{◌≡◌, ℕ, ◌<◌, ◌≤◌, false, List, All, sum_by}
use Rattle.ags_ports.specs.declared.machines.Machine.{Machine}
use Rattle.ags_script.specs.Limit.{step_limit}
use Rattle.ags_benchscript.specs.declared.commands.BenchCommand.{BenchCommand}
use Rattle.ags_benchscript.specs.declared.commands.BenchCommand.TheVariants.{ShowCell, ShowOut}
use Rattle.ags_benchscript.specs.Command.{step_count, lacks_port}

-- the address that a command names is that of a location
abbrev pub NamesLocation : BenchCommand → Type 0
NamesLocation (ShowCell address) = address < 4096
NamesLocation (ShowOut address) = address < 4096
NamesLocation _ = Unit {0}

-- The machine has each register that is named, each address is one of a location, and the steps are no more than a script
-- may have.
pub record Suits (machine : Machine) (asked : List (ℕ × BenchCommand)) : Type 0 where
  pub ports : All (λ (line : ℕ × BenchCommand). lacks_port machine line.1 ≡ false) asked
  pub locations : All (λ (line : ℕ × BenchCommand). NamesLocation line.1) asked
  pub steps : sum_by (λ (line : ℕ × BenchCommand). step_count line.1) asked ≤ step_limit
