use Rattle.std.proofs.Common.{rules}
use Rattle.ags_frame.proofs.lines.read_line.Goals as goal

pub returns-then-is_idle-clause-found : goal.returns-then-is_idle-clause-found
returns-then-is_idle-clause-found g c = search rules
