use Rattle.std.proofs.Common.{rules, ◌≡◌, ◌<◌, ◌∙◌, length, get_or}
use Rattle.std.proofs.lemmas.List.{length-set}
use Rattle.ags_domain.specs.declared.values.Value.{Value}
use Rattle.ags_row.specs.declared.rows.Row.{Row}
use Rattle.ags_recheck.specs.Kept.{IsItemKept}
use Rattle.ags_recheck.specs.declared.items.Item.{Item}
use Rattle.ags_recheck.proofs.CountLemmas.{steps_further}
use Rattle.ags_recheck.proofs.KeepingLemmas.{one_more}
use Rattle.ags_recheck.proofs.rejudging.judge_all.Goals as goal

pub loop-position-preserved : goal.loop-position-preserved
loop-position-preserved g c =
    let inside : c.loop-position.position < length c.args.cert.now.rows = search rules in
    let is : c.index-rows-position.result ≡ get_or c.args.cert.now.rows c.loop-position.position c.index-rows-position.result = search rules in (
      length-set c.loop-position.items c.loop-position.position c.judge.new.self ∙ c.loop-position.invariant.0,
      one_more (λ (row : Row Value) (item : Item). IsItemKept c.args.machine.now c.args.image.now c.args.cert.now row item) c.args.cert.now.rows c.loop-position.items
          c.loop-position.position c.index-rows-position.result c.judge.new.self inside c.loop-position.invariant.0 is c.judge.ensures.kept
          c.loop-position.invariant.1,
      steps_further c.args.image.now c.args.cert.now.limits c.args.cert.now.rows c.loop-position.position c.args.steps.now c.loop-position.steps
          c.judge.new.steps
          c.index-rows-position.result inside is c.loop-position.invariant.2 c.judge.ensures.steps,
    )

pub returns-clause-kept : goal.returns-clause-kept
returns-clause-kept g c = λ position row item inside row_is item_is.
    let before : position < c.loop-position.position = search rules in
    c.loop-position.invariant.1 position row item before inside row_is item_is
