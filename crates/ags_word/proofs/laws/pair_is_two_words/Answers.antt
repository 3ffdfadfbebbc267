use Rattle.ags_word.proofs.LongLaws.{pair_a_below, pair_q_below}
use Rattle.ags_word.proofs.laws.pair_is_two_words.Goals as goal

pub returns-clause-a : goal.returns-clause-a
returns-clause-a c = pair_a_below

pub returns-clause-q : goal.returns-clause-q
returns-clause-q c = pair_q_below
