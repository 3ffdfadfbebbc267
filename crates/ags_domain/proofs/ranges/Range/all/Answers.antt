use Rattle.ags_domain.proofs.PartLaws.{first_last}
use Rattle.ags_domain.proofs.ranges.Range.all.Goals as goal

pub spanning-requires : goal.spanning-requires
spanning-requires c = rw (c.first_word.ensures, c.low_bits.ensures) first_last
