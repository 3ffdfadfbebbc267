use Rattle.ags_check.proofs.AnsweredLemmas.{all_answered}
use Rattle.ags_check.proofs.answer_laws.each_certificate_is_answered.Goals as goal

pub returns : goal.returns
returns g = all_answered
