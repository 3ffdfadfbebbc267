use Rattle.std.proofs.Common.{rules}
use Rattle.ags_outside.proofs.steady_sink.SteadySinkSink.put.Goals as goal

pub returns-clause-took : goal.returns-clause-took
returns-clause-took c = search rules

pub returns-clause-taken : goal.returns-clause-taken
returns-clause-taken c = search rules

pub returns-clause-steady : goal.returns-clause-steady
returns-clause-steady c = search rules
