-- What a refusal prints is its name, its place and what it tells after them.
use Rattle.std.proofs.Common.{◌≡◌, ◌++◌, refl, arith}
use Rattle.std.proofs.lemmas.Grind.{common_steps}
use Rattle.ags_domain.specs.declared.values.Value.{Value}
use Rattle.ags_verdict.specs.declared.verdicts.Refusal.{Refusal}
use Rattle.ags_verdict.specs.declared.verdicts.Refusal.TheVariants.{InitRange, StartUncovered, CodeUnknown, NoOrder, BadPort, FixedWrite, MayOverflow, CellRange, OutputRange, NotCovered}
use Rattle.ags_verdict.specs.VerdictText.{refusal_name, refusal_place, refusal_rest, refusal_text, rest_text, where_text}

pub refusal_parts : (refusal : Refusal Value) → refusal_text refusal ≡ refusal_name refusal ++ (where_text (refusal_place refusal) ++ rest_text (refusal_rest refusal))
refusal_parts (InitRange address word) = grind (arith, common_steps)
refusal_parts StartUncovered = refl
refusal_parts (CodeUnknown row) = grind (arith, common_steps)
refusal_parts (NoOrder row word) = grind (arith, common_steps)
refusal_parts (BadPort row word) = grind (arith, common_steps)
refusal_parts (FixedWrite row word address) = grind (arith, common_steps)
refusal_parts (MayOverflow row word operands) = grind (arith, common_steps)
refusal_parts (CellRange row word address value) = grind (arith, common_steps)
refusal_parts (OutputRange row word address value) = grind (arith, common_steps)
refusal_parts (NotCovered row word x v next) = grind (arith, common_steps)
