use Rattle.std.proofs.Common.{◌≡◌, length}
use Rattle.ags_certread.specs.Pieces.{took_cert}
use Rattle.ags_outside.specs.Taken.{TakenSoFar}
use Rattle.ags_certread.proofs.reading_pieces.CertReaderTaker.take.Given as goal

abbrev pub invariant-loop-left : goal.invariant-loop-left
invariant-loop-left l = record { taken : TakenSoFar took_cert l.fn.self l.self l.piece l.left; ports : l.self.ports ≡ l.fn.self.ports }

abbrev pub decreases-loop-left : goal.decreases-loop-left
decreases-loop-left l = length l.left
