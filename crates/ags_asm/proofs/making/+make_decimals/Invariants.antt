use Rattle.std.proofs.Common.{length}
use Rattle.ags_asm.proofs.making.+make_decimals.Given as goal

abbrev pub decreases-make_decimals : goal.decreases-make_decimals
decreases-make_decimals l = length l.numbers.now
