use Rattle.std.proofs.Common.{refl}
use Rattle.ags_advice.proofs.hints.edit.Goals as goal

pub returns : goal.returns
returns c = rw (c.wanted_by.ensures, c.item_or-otherwise.ensures) refl
