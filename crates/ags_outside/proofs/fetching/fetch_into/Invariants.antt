use Rattle.std.proofs.Common.{◌≡◌, ◌-◌, ◌≤◌, length}
use Rattle.ags_outside.proofs.SoFar.{FetchedSoFar}
use Rattle.ags_outside.proofs.fetching.fetch_into.Given as goal

abbrev pub invariant-pulls : goal.invariant-pulls
invariant-pulls g l = record {
  within : l.from ≤ l.limit;
  buffer : length l.piece ≡ 4096;
  same : g.S.Shelf.told l.shelf ≡ g.S.Shelf.told l.fn.shelf;
  so_far : FetchedSoFar g.T.Taker.took (g.S.Shelf.told l.fn.shelf l.name) l.from l.fn.taker l.taker;
  stays : g.T.Taker.stays l.fn.taker l.taker;
  faults_stay : g.S.Shelf.faults l.shelf ≡ g.S.Shelf.faults l.fn.shelf;
  absences_stay : g.S.Shelf.absences l.shelf ≡ g.S.Shelf.absences l.fn.shelf;
}

abbrev pub decreases-pulls : goal.decreases-pulls
decreases-pulls g l = l.limit - l.from
