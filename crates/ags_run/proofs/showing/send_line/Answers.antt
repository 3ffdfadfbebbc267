use Rattle.std.proofs.Common.{rules}
use Rattle.ags_run.proofs.showing.send_line.Goals as goal

pub returns-clause-sent : goal.returns-clause-sent
returns-clause-sent g c = search rules

pub returns-clause-faults : goal.returns-clause-faults
returns-clause-faults g c = c.send.ensures.faults
