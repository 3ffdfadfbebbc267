use Rattle.std.proofs.Common.{w32, sym}
use Rattle.std.proofs.lemmas.Int.{to_z-of_z}
use Rattle.ags_certtext.proofs.ValueLemmas.{range_one}
use Rattle.ags_certtext.proofs.values.value_between.Goals as goal

pub returns-in-Some-clause-only : goal.returns-in-Some-clause-only
returns-in-Some-clause-only c = λ value is. sym (range_one _ _ value c.in-Some.range c.in-Some.ensures
    (rw (to_z-of_z w32 c.args.least c.ranges.least, to_z-of_z w32 c.args.greatest c.ranges.greatest) is))
