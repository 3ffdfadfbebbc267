use Rattle.ags_plan.proofs.AnswerLemmas.{some_answer}
use Rattle.ags_plan.proofs.laws.each_command_line_has_an_answer.Goals as goal

pub returns : goal.returns
returns g c = λ told arguments. some_answer g.P.Loader.definition g.P.Loader.plan_of g.met.P.Loader.lawful told arguments
