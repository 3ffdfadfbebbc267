use Rattle.std.proofs.Common.{length}
use Rattle.ags_isa.proofs.code_tables.+all_distinct.Given as goal

abbrev pub decreases-all_distinct : goal.decreases-all_distinct
decreases-all_distinct l = length l.codes.now
