use Rattle.ags_domain.proofs.SignLaws.{val_zero}
use Rattle.ags_domain.proofs.hulls.from_zero.Goals as goal

pub spanning-requires : goal.spanning-requires
spanning-requires c = rw (val_zero, c.greater_word.ensures) (c.requires c.in-Ok.first c.in-Ok-second.second c.in-Ok.is c.in-Ok-second.is)
