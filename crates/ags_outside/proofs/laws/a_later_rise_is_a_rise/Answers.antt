use Rattle.ags_outside.specs.Count.{rose_since}
use Rattle.ags_outside.proofs.laws.a_later_rise_is_a_rise.Goals as goal

pub returns : goal.returns
returns c = rose_since
