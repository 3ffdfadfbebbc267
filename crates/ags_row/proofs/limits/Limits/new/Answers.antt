use Rattle.std.proofs.Common.{refl}
use Rattle.std.proofs.lemmas.Result.{IfOk-from_err}
use Rattle.ags_row.proofs.LimitLemmas.{view_of, full_limits, whole_limits}
use Rattle.ags_row.proofs.limits.Limits.new.Goals as goal

pub returns : goal.returns
returns g c = full_limits g.D.Domain.meaning c.full-every.result
    (view_of c.in_ok-repeated.field-0.items c.in_ok-repeated-2.field-0.items c.in_ok-repeated-3.field-0.items c.in_ok-repeated-4.field-0.items c.full-every.result)
    c.full-every.ensures refl c.in_ok-repeated.ensures c.in_ok-repeated-2.ensures c.in_ok-repeated-3.ensures c.in_ok-repeated-4.ensures

pub invariant_of-result : goal.invariant_of-result
invariant_of-result g c = whole_limits g.D.Domain.meaning c.full-every.result
    (view_of c.in_ok-repeated.field-0.items c.in_ok-repeated-2.field-0.items c.in_ok-repeated-3.field-0.items c.in_ok-repeated-4.field-0.items c.full-every.result)
    c.full-every.ensures refl c.in_ok-repeated.ensures c.in_ok-repeated-2.ensures c.in_ok-repeated-3.ensures c.in_ok-repeated-4.ensures

pub returns-in_err-repeated : goal.returns-in_err-repeated
returns-in_err-repeated g c = IfOk-from_err _ _ c.from_residual.ensures.0

pub returns-in_err-repeated-2 : goal.returns-in_err-repeated-2
returns-in_err-repeated-2 g c = IfOk-from_err _ _ c.from_residual-in_err-repeated-2.ensures.0

pub returns-in_err-repeated-3 : goal.returns-in_err-repeated-3
returns-in_err-repeated-3 g c = IfOk-from_err _ _ c.from_residual-in_err-repeated-3.ensures.0

pub returns-in_err-repeated-4 : goal.returns-in_err-repeated-4
returns-in_err-repeated-4 g c = IfOk-from_err _ _ c.from_residual-in_err-repeated-4.ensures.0
