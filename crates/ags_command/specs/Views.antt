-- What clauses see of command lines.
use Rattle.std.specs.Prelude.{option_map}
use Rattle.ags_command.specs.declared.command_lines.Command.{Command}
use Rattle.ags_command.specs.declared.command_lines.Command.TheVariants as named
use Rattle.ags_command.specs.declared.command_lines.CommandLine.{CommandLine}
use Rattle.ags_command.specs.declared.asking.Asked.{Asked}
use Rattle.ags_command.specs.declared.asking.Asked.TheVariants.{OnMachine, Workload}
use Rattle.ags_command.specs.Command as asked

-- a command without where its names lie in memory
abbrev pub command_view : Command → asked.Command
command_view (named.Write text source) = asked.Write text source.now
command_view (named.Compare source listing) = asked.Compare source.now listing.now
command_view (named.Certify source certificate) = asked.Certify source.now certificate.now
command_view (named.Run source script) = asked.Run source.now script.now
command_view (named.Guard source script certificate) = asked.Guard source.now script.now certificate.now
command_view (named.Budget source certificate times) = asked.Budget source.now certificate.now times.now
command_view (named.Scales source certificate scales) = asked.Scales source.now certificate.now scales.now
command_view (named.Edits source certificate edits) = asked.Edits source.now certificate.now edits.now

-- and a command line
abbrev pub line_view : CommandLine → asked.CommandLine
line_view line = record { command = command_view line.command; machine = option_map (λ name. name.now) line.machine }

-- and what is asked for
abbrev pub asked_view : Asked → asked.Asked
asked_view (OnMachine line) = asked.OnMachine (line_view line)
asked_view (Workload size) = asked.Workload size
