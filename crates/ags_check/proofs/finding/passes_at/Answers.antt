use Rattle.std.proofs.Common.{◌-◌, sym, arith}
use Rattle.ags_check.proofs.finding.passes_at.Goals as goal

pub returns : goal.returns
returns g c = λ passes. (
  c.args.number - 1,
  c.index-rows-after.result,
  omega (arith, c.if-after-eq0.false, c.if-rows-after.false),
  sym c.index-rows-after.is,
  c.passes.ensures.0 passes,
  omega (arith, c.if-after-eq0.false),
)
