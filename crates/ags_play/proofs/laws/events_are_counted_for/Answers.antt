use Rattle.ags_play.proofs.CountLemmas.{few_steps, few_puts}
use Rattle.ags_play.proofs.laws.events_are_counted_for.Goals as goal

pub returns-clause-steps : goal.returns-clause-steps
returns-clause-steps c = few_steps

pub returns-clause-puts : goal.returns-clause-puts
returns-clause-puts c = few_puts
