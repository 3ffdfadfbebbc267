use Rattle.std.proofs.Common.{refl, ◌≡◌, true, false}
use Rattle.ags_ports.proofs.PortLemmas.{taken_twice, one_more}
use Rattle.ags_ports.proofs.registers.all_distinct.Goals as goal

differ : false ≡ true → ⊥
differ h = cc

pub returns-then-has_register : goal.returns-then-has_register
returns-then-has_register c =
    let taken = (rw c.if-has_register.true at c.has_register.ensures.some).0 refl in
    (λ none. absurd (differ none), λ distinct. absurd (taken_twice _ _ _ c.loop-position-test.true taken distinct))

pub loop-position-preserved : goal.loop-position-preserved
loop-position-preserved c =
    let free = (rw c.if-has_register.false at c.has_register.ensures.some).1 in
    one_more _ _ _ c.loop-position-test.true (λ taken. differ (free taken)) c.loop-position.invariant
