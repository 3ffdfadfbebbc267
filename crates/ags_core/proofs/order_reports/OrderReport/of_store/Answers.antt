use Rattle.std.proofs.Common.{rules}
use Rattle.ags_core.proofs.order_reports.OrderReport.of_store.Goals as goal

pub returns : goal.returns
returns c = search rules
