use Rattle.std.proofs.Common.{◌≡◌, ℕ, arith, sym, subst}
use Rattle.ags_certread.specs.Gathering.{gathering_of}
use Rattle.ags_certread.specs.NextState.{IsNext}
use Rattle.ags_certread.proofs.next_states.next_state.Goals as goal

pub returns-then-number-eq0-clause-next : goal.returns-then-number-eq0-clause-next
returns-then-number-eq0-clause-next c =
    let none : c.args.number ≡ 0 = omega arith in
    subst (λ (number : ℕ). IsNext c.args.ports.now number (gathering_of c.args.gatherer.now) c.args.line.now (gathering_of c.first_state.new.gatherer) c.first_state.result) (sym none)
    (c.first_state.ensures.next c.args.ports.now)
