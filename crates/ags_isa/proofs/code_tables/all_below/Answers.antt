use Rattle.std.proofs.Common.{rules}
use Rattle.ags_isa.proofs.code_tables.all_below.Goals as goal

pub returns : goal.returns
returns c = search rules
