use Rattle.ags_check.proofs.AnswerLemmas.{some_verdict}
use Rattle.ags_check.proofs.answer_laws.each_certificate_has_a_verdict.Goals as goal

pub returns : goal.returns
returns g = some_verdict
