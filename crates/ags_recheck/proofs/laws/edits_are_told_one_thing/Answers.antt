use Rattle.ags_recheck.proofs.TellingLemmas.{some_told, one_told}
use Rattle.ags_recheck.proofs.laws.edits_are_told_one_thing.Goals as goal

pub returns-clause-some : goal.returns-clause-some
returns-clause-some c = some_told

pub returns-clause-one : goal.returns-clause-one
returns-clause-one c = one_told
