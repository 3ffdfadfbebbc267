use Rattle.std.proofs.Common.{◌≡◌}
use Rattle.ags_image.proofs.TapeLemmas.{Sending}
use Rattle.ags_image.proofs.tape_writing.send_tape.Given as goal

abbrev pub invariant-loop-location : goal.invariant-loop-location
invariant-loop-location g l = record {
  sending : Sending (g.K.Sink.told l.fn.out) (g.K.Sink.told l.out) l.image l.location;
  faults : g.K.Sink.faults l.out ≡ g.K.Sink.faults l.fn.out;
}
