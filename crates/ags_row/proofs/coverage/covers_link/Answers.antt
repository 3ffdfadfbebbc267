use Rattle.std.proofs.Common.{refl}
use Rattle.std.proofs.lemmas.Bool.{eqb-true}
use Rattle.ags_row.proofs.coverage.covers_link.Goals as goal

pub returns-in-None : goal.returns-in-None
returns-in-None c = rw c.in-None.is (λ yes. tt, λ any. refl)

pub returns-in-None-after : goal.returns-in-None-after
returns-in-None-after c = rw c.in-Some.is (rw c.in-None-after.is (λ no. absurd cc, λ same. absurd cc))

pub returns-else-left-link : goal.returns-else-left-link
returns-else-left-link c = rw c.in-Some.is (rw c.in-Some-after.is (λ yes. absurd (c.if-left-link.false (eqb-true _ _ yes)), λ same. absurd (c.if-left-link.false cc)))
