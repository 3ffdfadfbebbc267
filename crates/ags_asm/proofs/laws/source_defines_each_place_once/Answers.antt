use Rattle.ags_asm.proofs.ApartLemmas.{each_place_once}
use Rattle.ags_asm.proofs.laws.source_defines_each_place_once.Goals as goal

pub returns : goal.returns
returns c = each_place_once
