use Rattle.std.proofs.Common.{rules}
use Rattle.ags_outside.specs.Sink.{wrote_nothing, front_of_wrote}
use Rattle.ags_plan.proofs.saying.send_line.Goals as goal

pub returns-in_default-clause-front : goal.returns-in_default-clause-front
returns-in_default-clause-front g c = λ text made. front_of_wrote (wrote_nothing (g.K.Sink.told c.args.out.now) text)

pub returns-clause-sent : goal.returns-clause-sent
returns-clause-sent g c = search rules

pub returns-clause-faults : goal.returns-clause-faults
returns-clause-faults g c = search rules
