use Rattle.std.proofs.Common.{rules}
use Rattle.ags_benchprocess.proofs.running.words_of.Goals as goal

pub loop-word-init : goal.loop-word-init
loop-word-init c = search rules
