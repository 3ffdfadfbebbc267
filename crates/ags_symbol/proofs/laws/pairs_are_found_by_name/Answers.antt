use Rattle.ags_symbol.proofs.FoundLemmas.{found_some, found_none, found_only}
use Rattle.ags_symbol.proofs.laws.pairs_are_found_by_name.Goals as goal

pub returns-clause-some : goal.returns-clause-some
returns-clause-some c = found_some

pub returns-clause-none : goal.returns-clause-none
returns-clause-none c = found_none

pub returns-clause-only : goal.returns-clause-only
returns-clause-only c = found_only
