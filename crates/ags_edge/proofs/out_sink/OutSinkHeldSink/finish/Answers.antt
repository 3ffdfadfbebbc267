use Rattle.std.proofs.Common.{rules}
use Rattle.ags_edge.proofs.out_sink.OutSinkHeldSink.finish.Goals as goal

pub returns-else-not-written-clause-written : goal.returns-else-not-written-clause-written
returns-else-not-written-clause-written c = search rules

pub returns-then-not-written-clause-once : goal.returns-then-not-written-clause-once
returns-then-not-written-clause-once c = search rules
