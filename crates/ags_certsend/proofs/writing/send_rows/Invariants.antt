use Rattle.std.proofs.Common.{◌≡◌}
use Rattle.ags_certsend.specs.Section.{row_lines}
use Rattle.ags_certsend.proofs.SendLemmas.{Sending}
use Rattle.ags_certsend.proofs.writing.send_rows.Given as goal

abbrev pub invariant-loop-row : goal.invariant-loop-row
invariant-loop-row g l = record {
  sending : Sending row_lines l.rows (g.K.Sink.told l.fn.out) (g.K.Sink.told l.out) l.row-index;
  faults : g.K.Sink.faults l.out ≡ g.K.Sink.faults l.fn.out;
}
