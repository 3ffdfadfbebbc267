use Rattle.std.proofs.Common.{refl, inl, inr}
use Rattle.ags_benchprocess.proofs.running.run_over.Goals as goal

pub returns-then-finish : goal.returns-then-finish
returns-then-finish g c = record {
  status = c.answer-status.result;
  failures = g.K.Sink.faults c.answer-status.new.out;
  ran = rw c.finish.ensures.told c.answer-status.ensures;
  ended = inl (refl, c.finish.ensures.clean c.if-finish.true, c.finish.ensures.written c.if-finish.true);
}

pub returns-else-finish : goal.returns-else-finish
returns-else-finish g c = record {
  status = c.answer-status.result;
  failures = g.K.Sink.faults c.answer-status.new.out;
  ran = rw c.finish.ensures.told c.answer-status.ensures;
  ended = inr (refl, c.finish.ensures.failed c.if-finish.false);
}
