use Rattle.std.proofs.Common.{arith, refl}
use Rattle.ags_certread.proofs.next_states.first_state.Goals as goal

pub returns-in-Ok-clause-next : goal.returns-in-Ok-clause-next
returns-in-Ok-clause-next c = λ ports. (λ none. (c.in-Ok.version, c.in-Ok.ensures.version, refl), λ some. absurd (omega (arith, some)))

pub returns-in-Err-clause-next : goal.returns-in-Err-clause-next
returns-in-Err-clause-next c = λ ports. (λ none. (refl, c.in-Err.ensures.faulty), λ some. absurd (omega (arith, some)))
