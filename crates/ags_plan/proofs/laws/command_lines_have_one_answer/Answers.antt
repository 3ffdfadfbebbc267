use Rattle.ags_plan.proofs.AnswerLemmas.{one_answer}
use Rattle.ags_plan.proofs.laws.command_lines_have_one_answer.Goals as goal

pub returns : goal.returns
returns g c = λ told arguments text other status ended tells first second.
    one_answer g.P.Loader.definition g.P.Loader.plan_of g.met.P.Loader.lawful told arguments text other status ended tells first second
