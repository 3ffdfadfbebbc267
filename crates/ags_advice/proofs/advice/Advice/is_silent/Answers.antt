use Rattle.std.proofs.Common.{rules}
use Rattle.ags_advice.proofs.advice.Advice.is_silent.Goals as goal

pub returns-in-Unwritten-Some-BrokenPipe : goal.returns-in-Unwritten-Some-BrokenPipe
returns-in-Unwritten-Some-BrokenPipe c = search rules
