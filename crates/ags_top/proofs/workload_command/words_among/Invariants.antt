use Rattle.std.proofs.Common.{◌≡◌, ℕ, List, Option, length, map, take}
use Rattle.ags_asm.specs.Source.{defined, placed_words}
use Rattle.ags_top.proofs.workload_command.words_among.Given as goal

abbrev pub invariant-loop-card : goal.invariant-loop-card
invariant-loop-card l = (image : List (Option ℕ)) → l.count ≡ length (placed_words (map (defined image) (take l.card-index l.cards)))
