use Rattle.std.specs.Prelude.{◌≡◌}
use Rattle.ags_statements.proofs.ReadLemmas.{SoFar}
use Rattle.ags_statements.proofs.reading.read_text.Given as goal

-- what the lines so far gave
abbrev pub invariant-loop-line : goal.invariant-loop-line
invariant-loop-line g l = record {
  so_far : SoFar l.name l.latest g.G.Statements.states (g.G.Gathers.faults l.fn.gathering) g.G.Gathers.gathered l.bytes l.version l.line-iterator l.gathering l.number;
  stays : g.G.Gathers.stays l.fn.gathering l.gathering;
}
