use Rattle.std.proofs.Common.{◌≡◌}
use Rattle.ags_xref.proofs.SendingLemmas.{Sending}
use Rattle.ags_xref.proofs.sending.send_lines.Given as goal

abbrev pub invariant-loop-index : goal.invariant-loop-index
invariant-loop-index g l = record {
  sending : Sending (g.K.Sink.told l.fn.out) (g.K.Sink.told l.out) l.rows l.naming l.index;
  faults : g.K.Sink.faults l.out ≡ g.K.Sink.faults l.fn.out;
}
