use Rattle.std.proofs.Common.{rules}
use Rattle.ags_script.proofs.verb_commands.cell_command.Goals as goal

pub returns : goal.returns
returns c = search rules
