use Rattle.ags_certtype.proofs.CheckLemmas.{Counted}
use Rattle.ags_certtype.proofs.checks.are_few_at_each.Given as goal

-- the rows so far are counted
abbrev pub invariant-loop-row : goal.invariant-loop-row
invariant-loop-row l = Counted l.rows l.row-index l.counts.items
