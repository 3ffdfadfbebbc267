use Rattle.std.proofs.Common.{◌≡◌, [], length}
use Rattle.ags_outside.specs.Sink.{Wrote}
use Rattle.ags_outside.proofs.sending.send.Given as goal

abbrev pub invariant-loop-rest : goal.invariant-loop-rest
invariant-loop-rest g l = record {
  wrote : Wrote (g.K.Sink.told l.fn.out) (g.K.Sink.told l.out) l.fn.bytes l.rest;
  faults_stay : g.K.Sink.faults l.out ≡ g.K.Sink.faults l.fn.out;
  nothing : l.fn.bytes ≡ [] → l.out ≡ l.fn.out;
}

abbrev pub decreases-loop-rest : goal.decreases-loop-rest
decreases-loop-rest g l = length l.rest
