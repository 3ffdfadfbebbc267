use Rattle.std.proofs.Common.{rules}
use Rattle.ags_certtext.proofs.signed.is_offset.Goals as goal

pub returns-then-number : goal.returns-then-number
returns-then-number c = search rules
