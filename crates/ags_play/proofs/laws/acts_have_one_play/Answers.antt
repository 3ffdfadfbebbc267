use Rattle.ags_play.proofs.OnePlayLemmas.{some_play, one_play}
use Rattle.ags_play.proofs.laws.acts_have_one_play.Goals as goal

pub returns-clause-some : goal.returns-clause-some
returns-clause-some c = some_play

pub returns-clause-one : goal.returns-clause-one
returns-clause-one c = λ machine guard b acts events others text other after left met stopped h p r.
    one_play machine h after left met stopped guard b acts events others text other p r
