-- The commands that a bench script shares with other scripts, and what each command counts for and needs of a machine.
use Rattle.std.specs.Prelude.{ℕ, Bool, false, Option, Some, None, unwrap_or}
use Rattle.std.specs.Option.{option_map}
use Rattle.ags_ports.specs.declared.machines.Machine.{Machine}
use Rattle.ags_script.specs.declared.commands.Command.{Command}
use Rattle.ags_script.specs.declared.commands.Command.TheVariants as script
use Rattle.ags_script.specs.Command as count
use Rattle.ags_benchscript.specs.declared.commands.BenchCommand.{BenchCommand}
use Rattle.ags_benchscript.specs.declared.commands.BenchCommand.TheVariants.{Step, Pulse, Cycle, ShowReg, ShowCell, ShowOut, Feed, Detach}

-- the command of a script that a command is as well: FEED and DETACH of a numbered device are none
abbrev pub script_command : BenchCommand → Option Command
script_command (Step count) = Some (script.Step count)
script_command Pulse = Some script.Pulse
script_command (Cycle count) = Some (script.Cycle count)
script_command ShowReg = Some script.ShowReg
script_command (ShowCell address) = Some (script.ShowCell address)
script_command (ShowOut address) = Some (script.ShowOut address)
script_command (Feed number) = None
script_command (Detach number) = None

-- and the other way: START, CELL, PORT, SET, KEY, a FEED without a number and SHOW DEDA are no commands of a bench script
abbrev pub bench_command : Command → Option BenchCommand
bench_command (script.Step count) = Some (Step count)
bench_command script.Pulse = Some Pulse
bench_command (script.Cycle count) = Some (Cycle count)
bench_command script.ShowReg = Some ShowReg
bench_command (script.ShowCell address) = Some (ShowCell address)
bench_command (script.ShowOut address) = Some (ShowOut address)
bench_command _ = None

-- how many steps a command counts for, as in a script: a cycle for 20,000
abbrev pub step_count : BenchCommand → ℕ
step_count command = unwrap_or (option_map count.step_count (script_command command)) 0

-- The machine lacks the register that the command names, as in a script: an output register for SHOW OUT.
abbrev pub lacks_port : Machine → BenchCommand → Bool
lacks_port machine command = unwrap_or (option_map (count.lacks_port machine) (script_command command)) false
