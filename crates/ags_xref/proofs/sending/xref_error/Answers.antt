use Rattle.std.proofs.Common.{rules}
use Rattle.ags_xref.proofs.sending.xref_error.Goals as goal

pub returns-in-WriteFault : goal.returns-in-WriteFault
returns-in-WriteFault c = search rules
