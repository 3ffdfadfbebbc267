use Rattle.ags_command.proofs.AskedLemmas.{asked_of-asked_arguments, asked_arguments-asked_of}
use Rattle.ags_command.proofs.laws.arguments_ask_for_one_thing.Goals as goal

pub returns-clause-form : goal.returns-clause-form
returns-clause-form c = asked_of-asked_arguments

pub returns-clause-only : goal.returns-clause-only
returns-clause-only c = asked_arguments-asked_of
