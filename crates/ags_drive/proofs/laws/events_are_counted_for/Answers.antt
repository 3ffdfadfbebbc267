use Rattle.ags_drive.proofs.CountLemmas.{few_steps, few_puts}
use Rattle.ags_drive.proofs.laws.events_are_counted_for.Goals as goal

pub returns-clause-steps : goal.returns-clause-steps
returns-clause-steps c = λ machine cert b here positions lines done rest events text is p. few_steps machine cert b here positions lines done rest events
    text is p

pub returns-clause-puts : goal.returns-clause-puts
returns-clause-puts c = λ machine cert b here positions lines done rest events text p. few_puts machine cert b here positions lines done rest events text p
