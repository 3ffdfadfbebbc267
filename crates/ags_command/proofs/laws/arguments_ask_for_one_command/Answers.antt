use Rattle.ags_command.proofs.CommandLemmas.{line_of-line_arguments, line_arguments-line_of}
use Rattle.ags_command.proofs.laws.arguments_ask_for_one_command.Goals as goal

pub returns-clause-form : goal.returns-clause-form
returns-clause-form c = line_of-line_arguments

pub returns-clause-only : goal.returns-clause-only
returns-clause-only c = line_arguments-line_of
