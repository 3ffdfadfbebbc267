use Rattle.ags_asm.proofs.MeaningLemmas.{one_for_each}
use Rattle.ags_asm.proofs.laws.each_card_has_its_definition.Goals as goal

pub returns : goal.returns
returns c = one_for_each
