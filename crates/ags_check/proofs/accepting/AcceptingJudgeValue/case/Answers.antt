use Rattle.std.proofs.Common.{arith}
use Rattle.ags_check.proofs.accepting.AcceptingJudgeValue.case.Goals as goal

pub returns-clause-step : goal.returns-clause-step
returns-clause-step g c = omega (arith, c.judge_case.ensures.step)
