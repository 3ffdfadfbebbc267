use Rattle.std.proofs.Common.{◌+◌, List, Ok, arith, rules, subst, sym, take_all}
use Rattle.ags_row.specs.declared.rows.Row.{Row}
use Rattle.ags_verdict.specs.Counting.{HaveCases}
use Rattle.ags_verdict.specs.Walk.{AreWalked}
use Rattle.ags_verdict.proofs.CountingLemmas.{steps_further, steps_within}
use Rattle.ags_verdict.proofs.WalkLemmas.{row_further, row_fails}
use Rattle.ags_verdict.proofs.walks.walk_rows.Goals as goal

pub returns-in-Err-clause-judged : goal.returns-in-Err-clause-judged
returns-in-Err-clause-judged g c = row_fails g.D.Domain.meaning c.args.image.now c.args.limits.now g.J.Judge.unknown
    (λ n r x o. g.J.Judge.judges c.args.judge.now n r x o)
    c.args.rows.now c.loop-row.row-index c.loop-row.count c.row-item.result c.row-item.result c.loop-row-test.true c.row-item.is
    c.loop-row.invariant.0 (c.loop-row.number + 1) c.in-Err.fault (search rules) c.in-Err.ensures.judged

pub returns-in-Err-clause-steps : goal.returns-in-Err-clause-steps
returns-in-Err-clause-steps g c = steps_within g.D.Domain.meaning c.args.image.now c.args.limits.now c.args.rows.now (c.loop-row.row-index + 1) c.args.steps.now c.walk_row_at.new.steps
    (steps_further g.D.Domain.meaning c.args.image.now c.args.limits.now c.args.rows.now c.loop-row.row-index c.args.steps.now c.loop-row.steps c.walk_row_at.new.steps
    c.row-item.result c.row-item.result c.loop-row-test.true c.row-item.is c.loop-row.invariant.3 c.walk_row_at.ensures.steps)

pub loop-row-preserved : goal.loop-row-preserved
loop-row-preserved g c = (
  row_further g.D.Domain.meaning c.args.image.now c.args.limits.now g.J.Judge.unknown
      (λ n r x o. g.J.Judge.judges c.args.judge.now n r x o)
      c.args.rows.now c.loop-row.row-index c.loop-row.count c.row-item.result c.row-item.result c.loop-row-test.true c.row-item.is
      c.loop-row.invariant.0 (c.loop-row.number + 1) c.in-Ok.cases (omega (arith, c.loop-row.invariant.1)) c.in-Ok.ensures.judged,
  omega (arith, c.loop-row.invariant.1),
  omega (arith, c.loop-row.invariant.2, c.in-Ok.ensures.few),
  steps_further g.D.Domain.meaning c.args.image.now c.args.limits.now c.args.rows.now c.loop-row.row-index c.args.steps.now c.loop-row.steps c.walk_row_at.new.steps
      c.row-item.result c.row-item.result c.loop-row-test.true c.row-item.is c.loop-row.invariant.3 c.walk_row_at.ensures.steps,
)

pub loop-row-init : goal.loop-row-init
loop-row-init g c = search rules

pub returns-clause-judged : goal.returns-clause-judged
returns-clause-judged g c =
    subst (λ (rows : List (Row _)). AreWalked g.D.Domain.meaning c.args.image.now c.args.limits.now g.J.Judge.unknown
    (λ n r x o. g.J.Judge.judges c.args.judge.now n r x o) rows (Ok c.loop-row.count))
    (take_all c.loop-row.row-index c.args.rows.now c.loop-row-test.false) c.loop-row.invariant.0

pub returns-clause-steps : goal.returns-clause-steps
returns-clause-steps g c = λ cases have. c.loop-row.invariant.3 cases
    (subst (λ (rows : List (Row _)). HaveCases g.D.Domain.meaning c.args.image.now c.args.limits.now rows cases)
    (sym (take_all c.loop-row.row-index c.args.rows.now c.loop-row-test.false)) have)
