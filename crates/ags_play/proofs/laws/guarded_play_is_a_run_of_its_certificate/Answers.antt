use Rattle.ags_play.proofs.PlayLemmas.{play_declared}
use Rattle.ags_play.proofs.RunOfLemmas.{play_is_run, nothing_is_played}
use Rattle.ags_play.proofs.laws.guarded_play_is_a_run_of_its_certificate.Goals as goal

pub returns-clause-declared : goal.returns-clause-declared
returns-clause-declared c = play_declared

pub returns-clause-run : goal.returns-clause-run
returns-clause-run c = λ machine image cert commands events text met. play_is_run machine image cert commands events text met

pub returns-clause-none : goal.returns-clause-none
returns-clause-none c = λ machine image cert commands events text outside. nothing_is_played machine image cert commands events text outside
