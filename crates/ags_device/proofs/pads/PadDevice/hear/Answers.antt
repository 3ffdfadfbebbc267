use Rattle.std.proofs.Common.{rules}
use Rattle.ags_device.proofs.pads.PadDevice.hear.Goals as goal

pub returns-clause-heard : goal.returns-clause-heard
returns-clause-heard c = search rules

pub returns-clause-same : goal.returns-clause-same
returns-clause-same c = search rules
