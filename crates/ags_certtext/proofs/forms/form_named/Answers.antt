use Rattle.std.proofs.Common.{arith}
use Rattle.std.proofs.lemmas.Grind.{elements}
use Rattle.ags_certtext.proofs.forms.form_named.Goals as goal

pub returns-in-ANY-clause-found : goal.returns-in-ANY-clause-found
returns-in-ANY-clause-found c = grind (arith, elements)

pub returns-in-RANGE-clause-found : goal.returns-in-RANGE-clause-found
returns-in-RANGE-clause-found c = grind (arith, elements)

pub returns-in-WORDS-clause-found : goal.returns-in-WORDS-clause-found
returns-in-WORDS-clause-found c = grind (arith, elements)
