use Rattle.ags_asm.proofs.half_words.+own.Given as goal

abbrev pub decreases-own : goal.decreases-own
decreases-own l = l.many
