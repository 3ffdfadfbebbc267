use Rattle.std.proofs.Common.{rules}
use Rattle.ags_benchscript.proofs.reader.Reader.add.Goals as goal

pub returns-then-step_count-self-clause-faulty : goal.returns-then-step_count-self-clause-faulty
returns-then-step_count-self-clause-faulty c = search rules
