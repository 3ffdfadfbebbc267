use Rattle.std.proofs.Common.{arith, rules}
use Rattle.std.proofs.lemmas.Grind.{common_steps}
use Rattle.ags_listing.specs.Reads.{is_ruled}
use Rattle.ags_listing.proofs.forms.is_ruled.Goals as goal

pub returns-else-line-eq32-2-clause-ruled : goal.returns-else-line-eq32-2-clause-ruled
unfolding is_ruled
returns-else-line-eq32-2-clause-ruled c = grind (arith, common_steps)

pub returns-then-line-eq32-2-clause-ruled : goal.returns-then-line-eq32-2-clause-ruled
unfolding is_ruled
returns-then-line-eq32-2-clause-ruled c = search rules
