use Rattle.std.proofs.Common.{◌∙◌, sym, true≢false}
use Rattle.ags_machfile.proofs.MachineFileLemmas.{machine_of-document, machine_of-none, read_ready, read_refused}
use Rattle.ags_machfile.proofs.reading.read.Goals as goal

pub returns-in-Ok-clause-ready : goal.returns-in-Ok-clause-ready
returns-in-Ok-clause-ready c =
    read_ready c.args.bytes.now c.machine_in.result (machine_of-document c.args.bytes.now _ c.in-Ok.ensures.ok.0 c.in-Ok.ensures.ok.1 ∙ sym c.machine_in.ensures.machine)

pub returns-in-Ok-clause-refused : goal.returns-in-Ok-clause-refused
returns-in-Ok-clause-refused c =
    read_refused c.args.bytes.now c.machine_in.result (machine_of-document c.args.bytes.now _ c.in-Ok.ensures.ok.0 c.in-Ok.ensures.ok.1 ∙ sym c.machine_in.ensures.machine)

pub returns-in-Err-2-clause-refused : goal.returns-in-Err-2-clause-refused
returns-in-Err-2-clause-refused c =
    machine_of-none c.args.bytes.now (c.in-Err.ensures.refused (λ memory. true≢false (sym (c.is_memory.ensures.1 memory) ∙ c.if-is_memory.false)))
