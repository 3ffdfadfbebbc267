use Rattle.std.proofs.Common.{rules}
use Rattle.ags_command.proofs.command_lines.read_names.Goals as goal

pub returns-in-tape : goal.returns-in-tape
returns-in-tape c = search rules
