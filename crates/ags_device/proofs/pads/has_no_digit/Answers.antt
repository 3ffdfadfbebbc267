use Rattle.std.proofs.Common.{rules}
use Rattle.ags_device.proofs.pads.has_no_digit.Goals as goal

pub returns : goal.returns
returns c = search rules
