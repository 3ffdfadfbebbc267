use Rattle.ags_asm.proofs.half_words.+first_taken.Given as goal

abbrev pub decreases-first_taken : goal.decreases-first_taken
decreases-first_taken l = l.many
