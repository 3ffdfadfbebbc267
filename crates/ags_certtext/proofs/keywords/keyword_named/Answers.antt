use Rattle.std.proofs.Common.{arith}
use Rattle.std.proofs.lemmas.Grind.{elements}
use Rattle.ags_certtext.proofs.keywords.keyword_named.Goals as goal

pub returns-in-MAY-clause-found : goal.returns-in-MAY-clause-found
returns-in-MAY-clause-found c = grind (arith, elements)

pub returns-in-ROW-clause-found : goal.returns-in-ROW-clause-found
returns-in-ROW-clause-found c = grind (arith, elements)

pub returns-in-END-clause-found : goal.returns-in-END-clause-found
returns-in-END-clause-found c = grind (arith, elements)

pub returns-in-LINK-clause-found : goal.returns-in-LINK-clause-found
returns-in-LINK-clause-found c = grind (arith, elements)

pub returns-in-START-clause-found : goal.returns-in-START-clause-found
returns-in-START-clause-found c = grind (arith, elements)
