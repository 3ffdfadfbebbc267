use Rattle.ags_drive.proofs.PointLemmas.{plays_on}
use Rattle.ags_drive.proofs.laws.acts_follow_one_another.Goals as goal

pub returns : goal.returns
returns c = λ machine cert b mid here first second events later text rest p q. plays_on machine cert b mid here first second events later text rest p q
