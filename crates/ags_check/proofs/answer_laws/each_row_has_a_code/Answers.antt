use Rattle.ags_check.proofs.CodeLemmas.{some_code}
use Rattle.ags_check.proofs.answer_laws.each_row_has_a_code.Goals as goal

pub returns : goal.returns
returns g = some_code
