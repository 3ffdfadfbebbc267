use Rattle.ags_frame.specs.declared.openings.Opening.TheVariants.{Malformed}
use Rattle.ags_frame.proofs.OpeningLemmas.{opening_found, opening_none, one_opening}
use Rattle.std.proofs.Common.{arith}
use Rattle.ags_frame.proofs.openings.read_opening.Goals as goal

pub returns-in-Some-clause-found : goal.returns-in-Some-clause-found
returns-in-Some-clause-found c =
    opening_found c.args.name.now c.args.line.now c.args.latest c.in-Some.digits.now c.opening_of.result c.requires (omega arith) c.in-Some.ensures.found c.opening_of.ensures

pub returns-in-Some-clause-only : goal.returns-in-Some-clause-only
returns-in-Some-clause-only c = λ opening is.
    one_opening c.args.name.now c.args.latest c.args.line.now opening c.opening_of.result c.requires is (returns-in-Some-clause-found c)

pub returns-in-None-clause-found : goal.returns-in-None-clause-found
returns-in-None-clause-found c = opening_none c.args.name.now c.args.line.now c.args.latest c.requires (λ digits is. absurd (c.in-None.ensures.only digits is))

pub returns-in-None-clause-only : goal.returns-in-None-clause-only
returns-in-None-clause-only c = λ opening is.
    one_opening c.args.name.now c.args.latest c.args.line.now opening Malformed c.requires is (returns-in-None-clause-found c)
