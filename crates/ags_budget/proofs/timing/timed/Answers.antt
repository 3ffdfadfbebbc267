use Rattle.std.proofs.Common.{◌≡◌, ℕ, ◌+◌, ◌≤◌, refl, sym, ◌∙◌, arith}
use Rattle.std.proofs.lemmas.Result.{IfOk-weaker}
use Rattle.ags_domain.specs.Value.{value_meaning}
use Rattle.ags_verdict.specs.RowCase.{case_in}
use Rattle.ags_certtype.specs.Cert.{certificate_of}
use Rattle.ags_budget.specs.Timing.{IsOrderOf}
use Rattle.ags_budget.proofs.TimingLemmas.{delayed}
use Rattle.ags_budget.proofs.timing.timed.Goals as goal

pub returns-then-is_dly-clause-judged : goal.returns-then-is_dly-clause-judged
returns-then-is_dly-clause-judged g c = λ accepted.
    let t = c.args.timing.now in
    let is_order : IsOrderOf (case_in c.args.timing.now.machine.now c.args.timing.now.image.now c.args.timing.now.cert.now.limits c.args.row.now c.args.case) c.in-Some.decoded.order = (c.in-Some.decoded, rw c.word.ensures at c.in-Some.ensures.named, refl) in
    delayed value_meaning (certificate_of t.cert.now) t.budget.now c.args.number c.bound.result c.time_of-time.result
    (case_in t.machine.now t.image.now t.cert.now.limits c.args.row.now c.args.case) c.in-Some.decoded.order is_order (sym c.is_dly.ensures ∙ c.if-is_dly.true)
    c.time_of-time.ensures.time c.bound.ensures.bound c.timed_by_delay.result c.timed_by_delay.ensures.fine c.timed_by_delay.ensures.late

one_step : (old new : ℕ) → new ≡ old + 1 → new ≤ old + 1
one_step old new is = omega arith

pub returns-then-is_dly-clause-once : goal.returns-then-is_dly-clause-once
returns-then-is_dly-clause-once g c = IfOk-weaker c.timed_by_delay.result _ (λ (count : ℕ). count ≡ 1) (λ count fine. fine.0) c.timed_by_delay.ensures.fine

pub timed_by_posts-requires-clause-order : goal.timed_by_posts-requires-clause-order
timed_by_posts-requires-clause-order g c = (
  c.in-Some.decoded.order,
  (c.in-Some.decoded, rw c.word.ensures at c.in-Some.ensures.named, refl),
  sym c.is_dly.ensures ∙ c.if-is_dly.false,
  c.time_of-time.ensures.time,
)

pub timed_by_posts-requires-clause-time : goal.timed_by_posts-requires-clause-time
timed_by_posts-requires-clause-time g c = c.time_of-time.ensures.most

pub returns-else-is_dly-clause-judged : goal.returns-else-is_dly-clause-judged
returns-else-is_dly-clause-judged g c = c.timed_by_posts.ensures.judged

pub returns-else-is_dly-clause-once : goal.returns-else-is_dly-clause-once
returns-else-is_dly-clause-once g c = c.timed_by_posts.ensures.once

pub returns-else-is_dly-clause-step : goal.returns-else-is_dly-clause-step
returns-else-is_dly-clause-step g c = one_step _ _ c.timed_by_posts.ensures.step
