use Rattle.std.proofs.Common.{rules}
use Rattle.ags_script.proofs.reader.Reader.add.Goals as goal

pub returns-then-lacks_port-clause-faulty : goal.returns-then-lacks_port-clause-faulty
returns-then-lacks_port-clause-faulty c = search rules
