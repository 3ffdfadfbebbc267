use Rattle.std.proofs.Common.{rules}
use Rattle.ags_benchprocess.proofs.devices.sensor.Goals as goal

pub returns : goal.returns
returns c = search rules
