use Rattle.ags_drive.proofs.PointLemmas.{lies_on_run, wrote_on_run}
use Rattle.ags_drive.proofs.laws.points_lie_on_the_run.Goals as goal

pub returns-clause-front : goal.returns-clause-front
returns-clause-front c = λ machine image cert devices lines events text here done rest is p. lies_on_run machine image cert devices lines is events text here done rest p

pub returns-clause-sent : goal.returns-clause-sent
returns-clause-sent c = λ machine image cert devices lines events text here done rest old new is p wrote. wrote_on_run machine image cert devices lines is events text here done rest old new p wrote
