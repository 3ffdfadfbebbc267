use Rattle.std.proofs.Common.{rules}
use Rattle.ags_transfer.proofs.codes.code.Goals as goal

pub returns-then-location-lt-ERASABLE : goal.returns-then-location-lt-ERASABLE
returns-then-location-lt-ERASABLE g c = search rules
