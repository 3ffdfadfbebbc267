use Rattle.std.proofs.Common.{rules}
use Rattle.ags_word.specs.Word.{wrap}
use Rattle.ags_device.proofs.sensors.wrapped.Goals as goal

pub returns : goal.returns
unfolding wrap
returns c = search rules
