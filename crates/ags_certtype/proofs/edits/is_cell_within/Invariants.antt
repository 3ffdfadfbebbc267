use Rattle.std.proofs.Common.{◌≡◌, ℕ, ◌<◌, get_or}
use Rattle.ags_domain.specs.Domain.{IsWithin}
use Rattle.ags_domain.specs.Value.{value_meaning}
use Rattle.ags_domain.specs.declared.values.Value.{Value}
use Rattle.ags_row.specs.declared.ats.At.{At}
use Rattle.ags_certtype.proofs.edits.is_cell_within.Given as goal

-- of the cells so far the one at the address is within the value
abbrev pub invariant-loop-cell : goal.invariant-loop-cell
invariant-loop-cell l = (i : ℕ) (d : At Value) → i < l.cell-index
    → let at = get_or l.cells i d in at.address ≡ l.address → IsWithin value_meaning at.value l.value
