use Rattle.std.proofs.Common.{length}
use Rattle.ags_asm.proofs.half_words.+fill.Given as goal

abbrev pub decreases-fill : goal.decreases-fill
decreases-fill l = length l.words.now
