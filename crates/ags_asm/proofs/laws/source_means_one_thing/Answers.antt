use Rattle.ags_asm.proofs.MeaningLemmas.{one_meaning, one_fault, not_both}
use Rattle.ags_asm.proofs.laws.source_means_one_thing.Goals as goal

pub returns : goal.returns
returns c = record { words = one_meaning; fault = one_fault; not_both = not_both }
