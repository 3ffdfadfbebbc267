use Rattle.std.proofs.Common.{rules}
use Rattle.ags_transfer.proofs.cases.Case.erasable_cell.Goals as goal

pub returns-then-address-location : goal.returns-then-address-location
returns-then-address-location c = search rules
