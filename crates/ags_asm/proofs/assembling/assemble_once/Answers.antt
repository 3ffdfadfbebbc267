use Rattle.ags_asm.proofs.ClosedLemmas.{whole_made, within_made}
use Rattle.ags_asm.proofs.assembling.assemble_once.Goals as goal

pub returns-clause-assembled : goal.returns-clause-assembled
returns-clause-assembled c = whole_made c.args.codes.now c.args.bytes.now c.close_pass.result c.close_pass.ensures.closed

pub returns-clause-within : goal.returns-clause-within
returns-clause-within c = within_made c.args.codes.now c.args.bytes.now c.close_pass.result c.close_pass.ensures.closed
