use Rattle.std.proofs.Common.{ℕ, ◌<◌, get_or}
use Rattle.ags_domain.specs.Domain.{IsWithin}
use Rattle.ags_domain.specs.Value.{value_meaning}
use Rattle.ags_domain.specs.declared.values.Value.{Value}
use Rattle.ags_row.specs.Limit.{cell_limit}
use Rattle.ags_row.specs.declared.ats.At.{At}
use Rattle.ags_certtype.proofs.edits.first_outside.Given as goal

-- the cells so far are within their limits
abbrev pub invariant-loop-cell : goal.invariant-loop-cell
invariant-loop-cell l = (i : ℕ) (d : At Value) → i < l.cell-index
    → let at = get_or l.cells i d in IsWithin value_meaning at.value (cell_limit l.limits at.address)
