use Rattle.std.proofs.Common.{◌≡◌}
use Rattle.ags_certsend.specs.Section.{stated_at, address_count}
use Rattle.ags_certsend.proofs.SendLemmas.{Ascending}
use Rattle.ags_certsend.proofs.writing.send_section.Given as goal

abbrev pub invariant-loop-address : goal.invariant-loop-address
invariant-loop-address g l = record {
  sending : Ascending (stated_at l.section l.cert) (address_count l.section) (g.K.Sink.told l.fn.out) (g.K.Sink.told l.out) l.address;
  faults : g.K.Sink.faults l.out ≡ g.K.Sink.faults l.fn.out;
}
