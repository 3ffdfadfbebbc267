use Rattle.ags_check.proofs.FindingLemmas.{NoneSoFar}
use Rattle.ags_check.proofs.finding.find_numbered.Given as goal

-- no row of the numbers so far passes
abbrev pub invariant-loop-number : goal.invariant-loop-number
invariant-loop-number g l = NoneSoFar (λ number row. g.T.RowTest.has l.test number row) l.rows l.numbers l.number-index
