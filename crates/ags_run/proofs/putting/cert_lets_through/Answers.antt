use Rattle.std.proofs.Common.{sym}
use Rattle.ags_run.proofs.PutLemmas.{registers_below}
use Rattle.ags_run.proofs.putting.cert_lets_through.Goals as goal

pub input-requires : goal.input-requires
input-requires c = registers_below c.args.machine.now.ports.inputs c.args.address c.in-Some.field-0 c.machine_is_made_of_tables.ensures.inputs (sym c.in-Some.ensures.position)
