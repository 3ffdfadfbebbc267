use Rattle.std.proofs.Common.{◌∙◌, sym, arith}
use Rattle.std.proofs.lemmas.Result.{err_from_is_err_and}
use Rattle.ags_machfile.proofs.PortTableLemmas.{listed_all, listed_fault, listed_more, listed_twice}
use Rattle.ags_machfile.proofs.port_tables.Direction.ports_listed.Goals as goal

pub returns-then-has_register-clause-fault : goal.returns-then-has_register-clause-fault
returns-then-has_register-clause-fault c =
    listed_twice c.args.self c.args.entries.now c.loop-entry.ports.items c.loop-entry.entry-index c.entry-item.result c.in_ok-port.port c.loop-entry-test.true
    c.entry-item.is (rw (← c.len.ensures.value) (sym c.entry_port.ensures.port ∙ c.in_ok-port.was))
    (rw (← c.as_slice.ensures.value) (sym c.has_register.ensures.same ∙ c.if-has_register.true)) c.loop-entry.invariant

pub loop-entry-preserved : goal.loop-entry-preserved
loop-entry-preserved c =
    rw c.push.ensures.items
    (listed_more c.args.self c.args.entries.now c.loop-entry.ports.items c.loop-entry.entry-index c.entry-item.result c.in_ok-port.port c.loop-entry-test.true
    (omega (arith, c.loop-entry-test.true, c.requires)) c.entry-item.is (rw (← c.len.ensures.value) (sym c.entry_port.ensures.port ∙ c.in_ok-port.was)) c.in_ok-port.ensures.below
    (rw (← c.as_slice.ensures.value) (sym c.has_register.ensures.same ∙ c.if-has_register.false)) c.loop-entry.invariant)

pub entry_port-requires : goal.entry_port-requires
entry_port-requires c = omega (arith, c.len.ensures.value, c.loop-entry.invariant.long, c.loop-entry-test.true, c.requires)

pub returns-in_err-port-clause-ports : goal.returns-in_err-port-clause-ports
returns-in_err-port-clause-ports c = rw ((err_from_is_err_and c.from_residual.result c.from_residual.ensures.1).1) tt

pub returns-in_err-port-clause-registers : goal.returns-in_err-port-clause-registers
returns-in_err-port-clause-registers c = rw ((err_from_is_err_and c.from_residual.result c.from_residual.ensures.1).1) tt

pub returns-in_err-port-clause-fault : goal.returns-in_err-port-clause-fault
returns-in_err-port-clause-fault c =
    let p = err_from_is_err_and c.from_residual.result c.from_residual.ensures.1 in
    rw (p.1, p.2)
    (listed_fault c.args.self c.args.entries.now c.loop-entry.ports.items c.loop-entry.entry-index c.entry-item.result c.in_err-port.field-0.0 c.loop-entry-test.true
    c.entry-item.is (rw (← c.len.ensures.value) (sym c.entry_port.ensures.port ∙ c.in_err-port.was)) c.loop-entry.invariant)

pub push-requires : goal.push-requires
push-requires c = (omega arith, omega (arith, c.loop-entry.invariant.long, c.loop-entry-test.true, c.requires))

pub returns-clause-ports : goal.returns-clause-ports
returns-clause-ports c = listed_all c.args.self c.args.entries.now c.loop-entry.ports.items c.loop-entry.entry-index (omega (arith, c.loop-entry-test.false)) c.loop-entry.invariant

pub returns-clause-registers : goal.returns-clause-registers
returns-clause-registers c = c.loop-entry.invariant.registers

pub returns-clause-fault : goal.returns-clause-fault
returns-clause-fault c = tt
