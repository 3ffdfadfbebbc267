use Rattle.std.proofs.Common.{rules}
use Rattle.ags_ports.proofs.addressing.effective_address.Goals as goal

pub returns-then-counts_index-clause-address : goal.returns-then-counts_index-clause-address
returns-then-counts_index-clause-address c = search rules
