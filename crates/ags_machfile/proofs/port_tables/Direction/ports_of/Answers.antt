use Rattle.std.proofs.Common.{sym, arith}
use Rattle.ags_machfile.proofs.PortTableLemmas.{ports_listed-few, ports_listed-many}
use Rattle.ags_machfile.proofs.port_tables.Direction.ports_of.Goals as goal

pub returns-then-len-gt-MOST_REGISTERS-clause-fault : goal.returns-then-len-gt-MOST_REGISTERS-clause-fault
returns-then-len-gt-MOST_REGISTERS-clause-fault c =
    rw c.key-then-len-gt-MOST_REGISTERS.ensures (ports_listed-many c.args.self _ c.in-Some.array.now.items (sym (rw c.in-Some.is at c.as_array.ensures)) (omega (arith, c.len.ensures, c.if-len-gt-MOST_REGISTERS.true)))

pub returns-clause-ports : goal.returns-clause-ports
returns-clause-ports c =
    let few = ports_listed-few c.args.self _ c.in-Some.array.now.items (sym (rw c.in-Some.is at c.as_array.ensures)) (omega (arith, c.len.ensures, c.if-len-gt-MOST_REGISTERS.false)) in
    rw (few, ← c.as_slice.ensures.value) c.ports_listed.ensures.ports

pub returns-clause-fault : goal.returns-clause-fault
returns-clause-fault c =
    let few = ports_listed-few c.args.self _ c.in-Some.array.now.items (sym (rw c.in-Some.is at c.as_array.ensures)) (omega (arith, c.len.ensures, c.if-len-gt-MOST_REGISTERS.false)) in
    rw (few, ← c.as_slice.ensures.value) c.ports_listed.ensures.fault
