use Rattle.ags_drive.proofs.RunLemmas.{play_runs, play_declared}
use Rattle.ags_drive.proofs.laws.events_of_acts_are_one_declared_run.Goals as goal

pub returns-clause-run : goal.returns-clause-run
returns-clause-run c = λ machine cert b here acts events text p. play_runs machine cert b here acts events text p

pub returns-clause-declared : goal.returns-clause-declared
returns-clause-declared c = λ machine cert b here acts events text p. play_declared machine cert b here acts events text p
