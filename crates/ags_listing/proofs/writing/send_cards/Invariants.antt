use Rattle.std.proofs.Common.{◌≡◌}
use Rattle.ags_listing.proofs.SendingLemmas.{Sending}
use Rattle.ags_listing.proofs.writing.send_cards.Given as goal

abbrev pub invariant-loop-index : goal.invariant-loop-index
invariant-loop-index g l = record {
  sending : Sending (g.K.Sink.told l.fn.out) (g.K.Sink.told l.out) l.source l.image l.placed l.index;
  faults : g.K.Sink.faults l.out ≡ g.K.Sink.faults l.fn.out;
}
