use Rattle.std.proofs.Common.{append_assoc}
use Rattle.ags_listing.proofs.list_error.ListErrorDisplay.fmt.Goals as goal

pub returns-in-PlaceTwice-clause-writes : goal.returns-in-PlaceTwice-clause-writes
returns-in-PlaceTwice-clause-writes g c = rw c.in-PlaceTwice.is (rw append_assoc c.write-in-PlaceTwice.ensures.writes)
