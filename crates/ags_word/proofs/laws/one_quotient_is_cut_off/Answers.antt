use Rattle.ags_word.proofs.LongLaws.{int_div-cut, cut_one}
use Rattle.ags_word.proofs.laws.one_quotient_is_cut_off.Goals as goal

pub returns-clause-some : goal.returns-clause-some
returns-clause-some c = int_div-cut

pub returns-clause-one : goal.returns-clause-one
returns-clause-one c = cut_one
