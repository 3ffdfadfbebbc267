use Rattle.ags_cert.proofs.LongestLemmas.{Searched}
use Rattle.ags_cert.proofs.values.read_value.Given as goal

abbrev pub invariant-loop-count : goal.invariant-loop-count
invariant-loop-count l = Searched l.line l.from l._count l.behind l.longest
