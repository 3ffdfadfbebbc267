use Rattle.std.proofs.Common.{arith}
use Rattle.std.proofs.lemmas.Grind.{common_steps}
use Rattle.ags_card.specs.Reading.{atom_reading}
use Rattle.ags_card.proofs.expressions.read_atom.Goals as goal

pub returns-in-Some-clause-same : goal.returns-in-Some-clause-same
unfolding atom_reading
returns-in-Some-clause-same c = grind (arith, common_steps)

pub returns-in-None-clause-same : goal.returns-in-None-clause-same
unfolding atom_reading
returns-in-None-clause-same c = grind (arith, common_steps)
