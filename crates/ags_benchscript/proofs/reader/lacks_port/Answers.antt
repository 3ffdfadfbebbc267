use Rattle.std.proofs.Common.{rules}
use Rattle.ags_benchscript.proofs.reader.lacks_port.Goals as goal

pub returns-in-Some : goal.returns-in-Some
returns-in-Some c = search rules
