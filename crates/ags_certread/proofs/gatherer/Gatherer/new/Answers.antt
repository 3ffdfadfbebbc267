use Rattle.std.proofs.Common.{refl}
use Rattle.std.proofs.lemmas.Result.{IfOk-from_err}
use Rattle.ags_certread.proofs.gatherer.Gatherer.new.Goals as goal

pub returns-in_err-places : goal.returns-in_err-places
returns-in_err-places c = IfOk-from_err _ _ c.from_residual.ensures.0

pub returns-in_err-counts : goal.returns-in_err-counts
returns-in_err-counts c = IfOk-from_err _ _ c.from_residual-in_err-counts.ensures.0

pub returns-in_err-cells : goal.returns-in_err-cells
returns-in_err-cells c = IfOk-from_err _ _ c.from_residual-in_err-cells.ensures.0

pub returns-in_err-inputs : goal.returns-in_err-inputs
returns-in_err-inputs c = IfOk-from_err _ _ c.from_residual-in_err-inputs.ensures.0

pub returns : goal.returns
returns c = rw (
  c.in_ok-cells.ensures.0,
  c.in_ok-cells.ensures.1,
  c.in_ok-inputs.ensures.0,
  c.in_ok-inputs.ensures.1,
  c.in_ok-places.ensures.items_if_clones_equal (λ _ same. same),
  c.in_ok-counts.ensures.items_if_clones_equal (λ _ same. same),
  c.new.ensures.items,
  c.new-2.ensures.items,
) refl
