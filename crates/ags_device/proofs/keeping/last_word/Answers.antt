use Rattle.std.proofs.Common.{rules}
use Rattle.ags_device.proofs.keeping.last_word.Goals as goal

pub returns : goal.returns
returns c = search rules
