use Rattle.std.proofs.Common.{◌≡◌, true, false, sym, ◌∙◌, rules}
use Rattle.ags_certtype.proofs.EditLemmas.{least_outside}
use Rattle.ags_certtype.proofs.edits.first_outside.Goals as goal

pub returns-then-not-within-clause-some : goal.returns-then-not-within-clause-some
returns-then-not-within-clause-some c = least_outside c.args.limits.now c.args.cells.now c.loop-cell.cell-index c.cell-item.result c.requires.ascending
    (search rules) c.cell-item.is
    (λ within. let not : false ≡ true = sym c.if-not-within.true ∙ c.within.ensures.1 (rw c.cell.ensures within) in absurd cc)
    c.loop-cell.invariant
