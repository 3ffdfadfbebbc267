use Rattle.std.proofs.Common.{◌≡◌}
use Rattle.ags_certsend.specs.Section.{cell_line}
use Rattle.ags_certsend.proofs.SendLemmas.{Sending}
use Rattle.ags_certsend.proofs.writing.send_cells.Given as goal

abbrev pub invariant-loop-cell : goal.invariant-loop-cell
invariant-loop-cell g l = record {
  sending : Sending cell_line l.cells (g.K.Sink.told l.fn.out) (g.K.Sink.told l.out) l.cell-index;
  faults : g.K.Sink.faults l.out ≡ g.K.Sink.faults l.fn.out;
}
