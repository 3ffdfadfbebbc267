use Rattle.std.proofs.Common.{◌≡◌, ℕ, ◌+◌, ◌<◌, ◌≤◌, arith}
use Rattle.std.proofs.lemmas.List.{take_all}
use Rattle.ags_verdict.proofs.OrderLemmas.{further, fails_at}
use Rattle.ags_verdict.proofs.walks.walk_cases.Goals as goal

one_more : (index count more : ℕ) → count ≡ index → more ≡ 1 → count + more ≡ index + 1
one_more index count more so_far once = omega arith

step_more : (old now new index : ℕ) → now ≤ old + index → new ≤ now + 1 → new ≤ old + (index + 1)
step_more old now new index so_far step = omega arith

steps_within : (old now new index all : ℕ) → now ≤ old + index → new ≤ now + 1 → index < all → new ≤ old + all
steps_within old now new index all so_far step inside = omega arith

all_counted : (count index all : ℕ) → count ≡ index → index ≤ all → all ≤ index → count ≡ all
all_counted count index all so_far within past = omega arith

steps_at_end : (old now index all : ℕ) → now ≤ old + index → index ≤ all → now ≤ old + all
steps_at_end old now index all so_far within = omega arith

pub returns-in-Err-clause-judged : goal.returns-in-Err-clause-judged
returns-in-Err-clause-judged g c = fails_at (λ position x o. g.J.Judge.judges c.args.judge.now c.args.number c.args.row.now x o) 0 c.args.cases.now
    c.loop-case.case-index c.loop-case.count c.in-Err.fault c.case-item.result c.case-item.result c.loop-case-test.true c.case-item.is
    c.loop-case.invariant.0 c.in-Err.ensures.judged

pub returns-in-Err-clause-steps : goal.returns-in-Err-clause-steps
returns-in-Err-clause-steps g c = steps_within _ _ _ _ _ c.loop-case.invariant.2 c.case.ensures.step c.loop-case-test.true

pub loop-case-preserved : goal.loop-case-preserved
loop-case-preserved g c = (
  further (λ position x o. g.J.Judge.judges c.args.judge.now c.args.number c.args.row.now x o) 0 c.args.cases.now
      c.loop-case.case-index c.loop-case.count c.in-Ok.more c.case-item.result c.case-item.result c.loop-case-test.true c.case-item.is
      c.loop-case.invariant.0 c.in-Ok.ensures.judged,
  one_more c.loop-case.case-index c.loop-case.count c.in-Ok.more c.loop-case.invariant.1 c.in-Ok.ensures.once,
  step_more _ _ _ _ c.loop-case.invariant.2 c.case.ensures.step,
)

pub returns-clause-judged : goal.returns-clause-judged
returns-clause-judged g c = rw (take_all c.loop-case.case-index c.args.cases.now c.loop-case-test.false) at c.loop-case.invariant.0

pub returns-clause-counted : goal.returns-clause-counted
returns-clause-counted g c = all_counted _ _ _ c.loop-case.invariant.1 c.loop-case.auto.case-index-end c.loop-case-test.false

pub returns-clause-steps : goal.returns-clause-steps
returns-clause-steps g c = steps_at_end _ _ _ _ c.loop-case.invariant.2 c.loop-case.auto.case-index-end
