use Rattle.std.proofs.Common.{rules}
use Rattle.ags_ports.proofs.time_tables.all_in_range.Goals as goal

pub returns : goal.returns
returns c = search rules
