use Rattle.ags_machfile.proofs.PortTableLemmas.{AreListed}
use Rattle.ags_machfile.proofs.port_tables.Direction.ports_listed.Given as goal

abbrev pub invariant-loop-entry : goal.invariant-loop-entry
invariant-loop-entry l = AreListed l.self l.entries l.ports.items l.entry-index
