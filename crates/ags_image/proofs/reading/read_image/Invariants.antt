use Rattle.std.proofs.Common.{◌+◌, ◌≤◌, length}
use Rattle.ags_image.specs.Lines.{feed_lines}
use Rattle.ags_image.proofs.ReadLemmas.{Reading}
use Rattle.ags_image.proofs.reading.read_image.Given as goal

abbrev pub invariant-loop-line : goal.invariant-loop-line
invariant-loop-line g l = record {
  reading : Reading g.F.LineForm.form (feed_lines l.bytes) (feed_lines l.rest) l.number l.image;
  few : l.number + length l.rest ≤ length l.bytes;
}

abbrev pub decreases-loop-line : goal.decreases-loop-line
decreases-loop-line g l = length l.rest
