use Rattle.std.proofs.Common.{refl}
use Rattle.ags_domain.proofs.shifts.long_right_at.Goals as goal

pub returns : goal.returns
returns c = rw (c.split-high.ensures, c.lrs.ensures, c.of.ensures) refl
