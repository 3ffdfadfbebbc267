use Rattle.ags_play.proofs.PlayLemmas.{play_runs}
use Rattle.ags_play.proofs.laws.events_of_a_play_are_one_run.Goals as goal

pub returns : goal.returns
returns c = play_runs
