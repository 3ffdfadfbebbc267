use Rattle.std.proofs.Common.{rules}
use Rattle.ags_script.proofs.verb_commands.subject_command.Goals as goal

pub returns-in-Deda : goal.returns-in-Deda
returns-in-Deda c = search rules
