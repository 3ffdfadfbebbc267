use Rattle.ags_word.proofs.LongLaws.{pair-long}
use Rattle.ags_word.proofs.laws.number_gives_pair_back.Goals as goal

pub returns : goal.returns
returns c = pair-long
