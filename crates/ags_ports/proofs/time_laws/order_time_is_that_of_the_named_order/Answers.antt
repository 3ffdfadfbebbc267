use Rattle.ags_ports.proofs.OrderTimeLemmas.{time-named, time-idle, time-most}
use Rattle.ags_ports.proofs.time_laws.order_time_is_that_of_the_named_order.Goals as goal

pub returns-clause-named : goal.returns-clause-named
returns-clause-named c = time-named

pub returns-clause-idle : goal.returns-clause-idle
returns-clause-idle c = time-idle

pub returns-clause-most : goal.returns-clause-most
returns-clause-most c = time-most
