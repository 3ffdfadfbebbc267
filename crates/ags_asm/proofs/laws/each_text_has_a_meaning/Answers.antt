use Rattle.ags_asm.proofs.MeaningLemmas.{each_means}
use Rattle.ags_asm.proofs.laws.each_text_has_a_meaning.Goals as goal

pub returns : goal.returns
returns c = each_means
