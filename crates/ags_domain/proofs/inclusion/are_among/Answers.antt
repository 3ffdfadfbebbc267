use Rattle.std.proofs.Common.{◌≡◌, ◌+◌, ◌<◌, ℕ, refl, sym, subst, arith, length}
use Rattle.ags_domain.proofs.AmongLaws.{TellsFrom, all_met, met_at_end, missing, met_one, passed}
use Rattle.ags_domain.proofs.inclusion.are_among.Goals as goal
use Rattle.ags_domain.proofs.inclusion.are_among.Goals.{then-next-number-2, else-next-number-2}

pub loop-word-init : goal.loop-word-init
loop-word-init c = record { inside = omega arith; same = refl; inner_ascends = c.requires.inner; outer_ascends = c.requires.outer }

pub returns-then-met-inner : goal.returns-then-met-inner
returns-then-met-inner c = all_met c.args.inner.now c.args.outer.now c.loop-word.met c.loop-word.word-index c.loop-word.invariant c.if-met-inner.true

pub bounds-inner-met : goal.bounds-inner-met
bounds-inner-met c = let inside = c.loop-word.invariant.inside in omega (arith, c.if-met-inner.false)

pub returns-then-next-number : goal.returns-then-next-number
returns-then-next-number c = missing c.args.inner.now c.args.outer.now c.loop-word.met c.loop-word.word-index c.loop-word.invariant
    c.index-inner-met.result c.word-item.result (let inside = c.loop-word.invariant.inside in omega (arith, c.if-met-inner.false))
    c.index-inner-met.is c.loop-word-test.true c.word-item.is (omega (arith, c.if-next-number.true, c.number-next.ensures.same, c.number.ensures.same))

pub loop-word-preserved : goal.loop-word-preserved
loop-word-preserved c =
    let inner = c.args.inner.now in
    let outer = c.args.outer.now in
    let i = c.loop-word.word-index in
    let x = c.index-inner-met.result in
    let o = c.word-item.result in
    let there : c.loop-word.met < length inner = let inside = c.loop-word.invariant.inside in omega (arith, c.if-met-inner.false) in
    elim c.if-next-number-2.branch [
      | then-next-number-2 w ↦
          let same : x ≡ o = omega (arith, w.if-next-number-2.true, c.number-next.ensures.same, c.number-in-loop-word.ensures.same) in
          subst (λ (met : ℕ). TellsFrom inner outer met (i + 1)) (sym w.met-is)
          (met_one inner outer c.loop-word.met i c.loop-word.invariant x o there c.index-inner-met.is c.loop-word-test.true c.word-item.is same)
      | else-next-number-2 w ↦
          let above : o < x = omega (arith, w.if-next-number-2.false, c.if-next-number.false, c.number-next.ensures.same, c.number.ensures.same, c.number-in-loop-word.ensures.same) in
          subst (λ (met : ℕ). TellsFrom inner outer met (i + 1)) (sym w.met-is)
          (passed inner outer c.loop-word.met i c.loop-word.invariant x o there c.index-inner-met.is c.loop-word-test.true c.word-item.is above)
    ]

pub returns : goal.returns
returns c = met_at_end c.args.inner.now c.args.outer.now c.loop-word.met c.loop-word.word-index c.loop-word.invariant c.loop-word-test.false
