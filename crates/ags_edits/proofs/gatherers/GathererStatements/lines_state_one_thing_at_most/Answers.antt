use Rattle.ags_edits.proofs.LineLemmas.{some_statement, one_statement, idle_states_nothing}
use Rattle.ags_edits.proofs.gatherers.GathererStatements.lines_state_one_thing_at_most.Goals as goal

pub returns-clause-some : goal.returns-clause-some
returns-clause-some c = some_statement

pub returns-clause-one : goal.returns-clause-one
returns-clause-one c = one_statement

pub returns-clause-idle : goal.returns-clause-idle
returns-clause-idle c = idle_states_nothing
