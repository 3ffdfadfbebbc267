use Rattle.std.proofs.Common.{rules}
use Rattle.ags_transfer.proofs.cases.Case.link_beside.Goals as goal

pub returns-else-link-e : goal.returns-else-link-e
returns-else-link-e g c = search rules
