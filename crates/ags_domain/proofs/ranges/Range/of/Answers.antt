use Rattle.std.proofs.Common.{w32, arith}
use Rattle.std.proofs.lemmas.Int.{ints, to_z-of_z}
use Rattle.ags_domain.proofs.RangeLaws.{value_none, value_some}
use Rattle.ags_domain.proofs.ranges.Range.of.Goals as goal

pub returns-in_default : goal.returns-in_default
returns-in_default c =
    let none = value_none c.args.least c.from_value.result (to_z-of_z w32 c.args.least c.ranges.least) c.from_value.ensures c.in_default.is in
    λ h k. absurd cc

pub returns-in_default-from_value : goal.returns-in_default-from_value
returns-in_default-from_value c =
    let none = value_none c.args.greatest c.from_value-2.result (to_z-of_z w32 c.args.greatest c.ranges.greatest)
    c.from_value-2.ensures c.in_default-from_value.is in
    λ h k. absurd cc

pub returns-then-value : goal.returns-then-value
returns-then-value c =
    let low = value_some c.args.least c.from_value.result c.in-Some.least (to_z-of_z w32 c.args.least c.ranges.least) c.from_value.ensures c.in-Some.is in
    let high = value_some c.args.greatest c.from_value-2.result c.in-Some-from_value.greatest (to_z-of_z w32 c.args.greatest c.ranges.greatest)
    c.from_value-2.ensures c.in-Some-from_value.is in
    (low.0, high.0, omega (arith, ints, low.2, high.2, c.if-value.true), rw (← low.1, ← high.1) c.spanning.ensures)

pub returns-else-value : goal.returns-else-value
returns-else-value c =
    let low = value_some c.args.least c.from_value.result c.in-Some.least (to_z-of_z w32 c.args.least c.ranges.least) c.from_value.ensures c.in-Some.is in
    let high = value_some c.args.greatest c.from_value-2.result c.in-Some-from_value.greatest (to_z-of_z w32 c.args.greatest c.ranges.greatest)
    c.from_value-2.ensures c.in-Some-from_value.is in
    λ h k. grind (arith, ints, low.2, high.2, c.if-value.false)
