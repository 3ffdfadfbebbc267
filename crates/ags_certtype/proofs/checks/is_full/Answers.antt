use Rattle.std.proofs.Common.{rules}
use Rattle.ags_certtype.proofs.checks.is_full.Goals as goal

pub returns-clause-room : goal.returns-clause-room
returns-clause-room c = search rules
