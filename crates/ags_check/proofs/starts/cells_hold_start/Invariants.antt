use Rattle.std.proofs.Common.{ℕ, ◌<◌, get_or}
use Rattle.ags_domain.specs.declared.values.Value.{Value}
use Rattle.ags_image.specs.Image.{entry_at}
use Rattle.ags_row.specs.declared.ats.At.{At}
use Rattle.ags_certtype.specs.Cert.{certificate_of}
use Rattle.ags_check.specs.Checking.{HoldsFirstWords}
use Rattle.ags_check.proofs.starts.cells_hold_start.Given as goal

-- the cells so far hold the start
abbrev pub invariant-loop-cell : goal.invariant-loop-cell
invariant-loop-cell l = (i : ℕ) (d : At Value) → i < l.cell-index
    → let at = get_or l.cells i d in HoldsFirstWords at.value (entry_at l.image at.address) ((certificate_of l.cert).init at.address)
