use Rattle.std.proofs.Common.{rules}
use Rattle.ags_process.proofs.running.arguments_of.Goals as goal

pub loop-argument-init : goal.loop-argument-init
loop-argument-init c = search rules
