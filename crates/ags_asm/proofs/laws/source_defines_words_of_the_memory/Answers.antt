use Rattle.ags_asm.proofs.MemoryLemmas.{words_of_memory}
use Rattle.ags_asm.proofs.laws.source_defines_words_of_the_memory.Goals as goal

pub returns : goal.returns
returns c = words_of_memory
