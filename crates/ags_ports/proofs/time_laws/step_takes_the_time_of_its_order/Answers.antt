use Rattle.ags_ports.proofs.OrderTimeLemmas.{time-read, time-least, time-other, time-unread, time-halts}
use Rattle.ags_ports.proofs.time_laws.step_takes_the_time_of_its_order.Goals as goal

pub returns-clause-order : goal.returns-clause-order
returns-clause-order c = time-read

pub returns-clause-least : goal.returns-clause-least
returns-clause-least c = time-least

pub returns-clause-other : goal.returns-clause-other
returns-clause-other c = time-other

pub returns-clause-unread : goal.returns-clause-unread
returns-clause-unread c = time-unread

pub returns-clause-halts : goal.returns-clause-halts
returns-clause-halts c = time-halts
