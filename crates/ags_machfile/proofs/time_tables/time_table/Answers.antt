use Rattle.std.proofs.Common.{rules, ◌∙◌, ◌≤◌, sym, refl}
use Rattle.std.proofs.lemmas.Result.{err_from_is_err_and}
use Rattle.std.proofs.lemmas.List.Elements.{All-set, All-replicate}
use Rattle.ags_machfile.proofs.TableLemmas.{filled_none, filled_more, filled_fault, filled_whole}
use Rattle.ags_machfile.proofs.time_tables.time_table.Goals as goal

pub loop-position-init : goal.loop-position-init
loop-position-init c = (filled_none _ _ refl, All-replicate (λ time. 1 ≤ time) 27 1 (search rules), All-replicate (λ time. time ≤ 1000) 27 1 (search rules))

pub returns-in_err-times-clause-times : goal.returns-in_err-times-clause-times
returns-in_err-times-clause-times c =
    let p = err_from_is_err_and c.from_residual.result c.from_residual.ensures.1 in
    rw (p.1, p.2) (sym (filled_fault _ c.loop-position.times c.loop-position.position _ _ c.loop-position-test.true c.at.ensures (sym c.time_entry.ensures.time ∙ c.in_err-times.was) c.loop-position.invariant.0))

pub loop-position-preserved : goal.loop-position-preserved
loop-position-preserved c = (
  filled_more _ c.loop-position.times c.loop-position.position _ _ c.loop-position-test.true c.at.ensures (sym c.time_entry.ensures.time ∙ c.in_ok-times.was) c.loop-position.invariant.0,
  All-set (λ time. 1 ≤ time) _ _ _ c.in_ok-times.ensures.least c.loop-position.invariant.1,
  All-set (λ time. time ≤ 1000) _ _ _ c.in_ok-times.ensures.most c.loop-position.invariant.2,
)

pub returns-clause-times : goal.returns-clause-times
returns-clause-times c = sym (filled_whole _ c.loop-position.times c.loop-position.position c.loop-position-test.false c.loop-position.invariant.0)
