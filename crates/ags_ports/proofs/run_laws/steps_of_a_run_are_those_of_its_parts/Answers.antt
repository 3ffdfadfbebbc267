use Rattle.ags_ports.proofs.RunLemmas.{front_steps, later_steps, joined_steps}
use Rattle.ags_ports.proofs.run_laws.steps_of_a_run_are_those_of_its_parts.Goals as goal

pub returns-clause-front : goal.returns-clause-front
returns-clause-front g c = front_steps g.F.StepFact.holds

pub returns-clause-behind : goal.returns-clause-behind
returns-clause-behind g c = later_steps g.F.StepFact.holds

pub returns-clause-both : goal.returns-clause-both
returns-clause-both g c = joined_steps g.F.StepFact.holds
