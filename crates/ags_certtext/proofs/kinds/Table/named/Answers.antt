use Rattle.std.proofs.Common.{arith}
use Rattle.std.proofs.lemmas.Grind.{elements}
use Rattle.ags_certtext.proofs.kinds.Table.named.Goals as goal

pub returns-in-IN-clause-found : goal.returns-in-IN-clause-found
returns-in-IN-clause-found c = grind (arith, elements)

pub returns-in-AT-clause-found : goal.returns-in-AT-clause-found
returns-in-AT-clause-found c = grind (arith, elements)

pub returns-in-OUT-clause-found : goal.returns-in-OUT-clause-found
returns-in-OUT-clause-found c = grind (arith, elements)

pub returns-in-CELL-clause-found : goal.returns-in-CELL-clause-found
returns-in-CELL-clause-found c = grind (arith, elements)

pub returns-in-INIT-clause-found : goal.returns-in-INIT-clause-found
returns-in-INIT-clause-found c = grind (arith, elements)
