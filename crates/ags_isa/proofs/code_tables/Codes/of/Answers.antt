use Rattle.std.proofs.Common.{rules}
use Rattle.ags_isa.proofs.code_tables.Codes.of.Goals as goal

pub made_of-requires : goal.made_of-requires
made_of-requires c = search rules
