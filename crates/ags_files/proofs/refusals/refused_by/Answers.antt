use Rattle.std.proofs.Common.{rules}
use Rattle.ags_files.proofs.refusals.refused_by.Goals as goal

pub returns-in-Err-Absent : goal.returns-in-Err-Absent
returns-in-Err-Absent g c = search rules
