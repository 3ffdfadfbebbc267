use Rattle.ags_play.proofs.UnguardedLemmas.{unguarded}
use Rattle.ags_play.proofs.laws.unguarded_play_meets_nothing.Goals as goal

pub returns : goal.returns
returns c = unguarded
