use Rattle.std.proofs.Common.{length}
use Rattle.ags_machfile.proofs.code_tables.+first_pair.Given as goal

abbrev pub decreases-first_pair : goal.decreases-first_pair
decreases-first_pair l = length l.orders.now
