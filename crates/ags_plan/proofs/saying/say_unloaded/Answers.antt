use Rattle.std.proofs.Common.{refl, rules}
use Rattle.ags_plan.specs.Plan.{AbsentAt, LongAt, RefusedAt, absent_line, long_line}
use Rattle.ags_plan.proofs.SayingLemmas.{said}
use Rattle.ags_plan.proofs.saying.say_unloaded.Goals as goal

pub returns-in-Absent-clause-says : goal.returns-in-Absent-clause-says
returns-in-Absent-clause-says g c =
    let name = c.in-Absent.name.now in
    rw c.in-Absent.is
    (said g.P.Loader.definition (AbsentAt name) _ _ (absent_line name) c.stop_status.result c.say.result (refl, c.stop_status.ensures)
    c.say.ensures.ended (c.say.ensures.sent _ c.absent_text.ensures) (c.say.ensures.prefix _ c.absent_text.ensures))

pub returns-in-TooLong-clause-says : goal.returns-in-TooLong-clause-says
returns-in-TooLong-clause-says g c =
    let name = c.in-TooLong.name.now in
    rw c.in-TooLong.is
    (said g.P.Loader.definition (LongAt name c.in-TooLong.limit) _ _ (long_line name c.in-TooLong.limit) c.stop_status-in-TooLong.result c.say-in-TooLong.result
    (refl, c.stop_status-in-TooLong.ensures)
    c.say-in-TooLong.ensures.ended (c.say-in-TooLong.ensures.sent _ c.long_text.ensures) (c.say-in-TooLong.ensures.prefix _ c.long_text.ensures))

pub returns-in-Refused-clause-says : goal.returns-in-Refused-clause-says
returns-in-Refused-clause-says g c =
    let refusal = c.in-Refused.refusal in
    let line = g.P.Loader.line_of refusal in
    rw c.in-Refused.is
    (said g.P.Loader.definition (RefusedAt line (g.P.Loader.status_of refusal)) _ _ line c.refusal_status.result c.say-in-Refused.result
    (refl, c.refusal_status.ensures)
    c.say-in-Refused.ensures.ended (c.say-in-Refused.ensures.sent _ c.refusal_line.ensures) (c.say-in-Refused.ensures.prefix _ c.refusal_line.ensures))

pub returns-in-ReadFault-clause-says : goal.returns-in-ReadFault-clause-says
returns-in-ReadFault-clause-says g c = search rules

pub returns-in-ReadFault-clause-faults : goal.returns-in-ReadFault-clause-faults
returns-in-ReadFault-clause-faults g c = search rules
