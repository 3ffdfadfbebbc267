use Rattle.ags_play.proofs.CutLemmas.{plays_on, plays_stop}
use Rattle.ags_play.proofs.laws.plays_follow_one_another.Goals as goal

pub returns-clause-on : goal.returns-clause-on
returns-clause-on c = plays_on

pub returns-clause-stop : goal.returns-clause-stop
returns-clause-stop c = plays_stop
