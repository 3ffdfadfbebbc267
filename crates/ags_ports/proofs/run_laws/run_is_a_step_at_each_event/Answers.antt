use Rattle.ags_ports.proofs.RunLemmas.{steps_of_run, run_of_steps, along_run, along_states}
use Rattle.ags_ports.proofs.run_laws.run_is_a_step_at_each_event.Goals as goal

pub returns-clause-steps : goal.returns-clause-steps
returns-clause-steps g c = λ machine s events moments. (steps_of_run machine s events moments, run_of_steps machine s events moments)

pub returns-clause-along : goal.returns-clause-along
returns-clause-along g c = along_run g.F.StepFact.holds

pub returns-clause-kept : goal.returns-clause-kept
returns-clause-kept g c = along_states g.F.StepFact.holds
