use Rattle.std.proofs.Common.{sym, ◌∙◌}
use Rattle.std.proofs.lemmas.Bool.{false≢true}
use Rattle.ags_check.proofs.covering.CoveringRowTest.passes.Goals as goal

pub returns-then-covers : goal.returns-then-covers
returns-then-covers g c =
    rw (← c.self.view_is) (λ yes. (c.covers.ensures.0 c.if-covers.true, c.serves.ensures.0 yes), λ both. c.serves.ensures.1 both.1)

pub returns-else-covers : goal.returns-else-covers
returns-else-covers g c =
    rw (← c.self.view_is) (λ yes. absurd (false≢true (sym c.if-covers.false ∙ yes)), λ both. c.covers.ensures.1 both.0)
