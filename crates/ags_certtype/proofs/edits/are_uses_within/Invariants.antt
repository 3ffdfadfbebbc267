use Rattle.std.proofs.Common.{◌≡◌, ℕ, ◌<◌, get_or}
use Rattle.std.specs.Prelude.{All}
use Rattle.ags_domain.specs.Domain.{IsWithin}
use Rattle.ags_domain.specs.Value.{value_meaning}
use Rattle.ags_domain.specs.declared.values.Value.{Value}
use Rattle.ags_row.specs.declared.rows.Row.{Row}
use Rattle.ags_certtype.proofs.edits.are_uses_within.Given as goal

-- so it is of the rows so far
abbrev pub invariant-loop-row : goal.invariant-loop-row
invariant-loop-row l = (i : ℕ) (d : Row Value) → i < l.row-index
    → All (λ at. at.address ≡ l.address → IsWithin value_meaning at.value l.value) (get_or l.rows i d).at
