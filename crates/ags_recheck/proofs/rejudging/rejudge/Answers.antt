use Rattle.std.proofs.Common.{rules, ◌≡◌, ◌<◌, ◌≤◌, sym, ◌∙◌, arith, length, get_or}
use Rattle.std.proofs.lemmas.List.{get_or_default, length-set}
use Rattle.ags_domain.specs.declared.values.Value.{Value}
use Rattle.ags_row.specs.declared.rows.Row.{Row}
use Rattle.ags_recheck.specs.Kept.{IsItemKept}
use Rattle.ags_recheck.specs.declared.items.Item.{Item}
use Rattle.ags_recheck.proofs.EditLemmas.{apart_of}
use Rattle.ags_recheck.proofs.KeepingLemmas.{one_more, others_stay}
use Rattle.ags_recheck.proofs.StepLemmas.{none_spent, spent_further, all_spent}
use Rattle.ags_recheck.proofs.rejudging.rejudge.Goals as goal

pub judge_if-requires-clause-kept : goal.judge_if-requires-clause-kept
judge_if-requires-clause-kept g c = λ not_edited no_one no_other.
    let inside : c.loop-position.position < length c.args.cert.now.rows = search rules in
    let is : c.index-rows-position.result ≡ get_or c.args.cert.now.rows c.loop-position.position c.index-rows-position.result = search rules in
    let inside_items : c.loop-position.position < length c.loop-position.items = search rules in
    let item = get_or c.loop-position.items c.loop-position.position c.index-items-position.result in
    c.requires.others c.loop-position.position c.index-rows-position.result item inside (sym is)
    (sym (c.loop-position.invariant.2 c.loop-position.position item (omega arith)) ∙ get_or_default c.loop-position.items c.loop-position.position item c.index-items-position.result inside_items)
    (apart_of c.loop-position.position c.args.edited not_edited) no_one no_other

pub loop-position-preserved : goal.loop-position-preserved
loop-position-preserved g c =
    let inside : c.loop-position.position < length c.args.cert.now.rows = search rules in
    let is : c.index-rows-position.result ≡ get_or c.args.cert.now.rows c.loop-position.position c.index-rows-position.result = search rules in
    let inside_items : c.loop-position.position < length c.loop-position.items = search rules in (
      length-set c.loop-position.items c.loop-position.position c.judge_if.new.item ∙ c.loop-position.invariant.0,
      one_more (λ (row : Row Value) (item : Item). IsItemKept c.args.machine.now c.args.image.now c.args.cert.now row item) c.args.cert.now.rows c.loop-position.items
          c.loop-position.position c.index-rows-position.result c.judge_if.new.item inside c.loop-position.invariant.0 is c.judge_if.ensures.kept
          c.loop-position.invariant.1,
      others_stay (λ (row : Row Value) (item : Item). IsItemKept c.args.machine.now c.args.image.now c.args.cert.now row item) c.args.cert.now.rows c.loop-position.items
          c.loop-position.position c.args.items.now c.judge_if.new.item c.loop-position.invariant.2,
      λ before new own is_before has.
          let item = get_or c.loop-position.items c.loop-position.position c.index-items-position.result in
          spent_further c.args.machine.now c.args.image.now c.args.cert.now c.args.edited c.args.one c.args.other before new c.args.items.now is_before own has c.args.steps.now
          c.loop-position.position c.loop-position.steps c.judge_if.new.steps c.index-rows-position.result item inside (sym is)
          (sym (c.loop-position.invariant.2 c.loop-position.position item (omega arith)) ∙ get_or_default c.loop-position.items c.loop-position.position item c.index-items-position.result inside_items)
          (c.loop-position.invariant.3 before new own is_before has) c.judge_if.ensures.steps c.judge_if.ensures.idle,
    )

pub returns-clause-kept : goal.returns-clause-kept
returns-clause-kept g c = λ position row item inside row_is item_is.
    let before : position < c.loop-position.position = search rules in
    c.loop-position.invariant.1 position row item before inside row_is item_is

pub loop-position-init : goal.loop-position-init
loop-position-init g c = (
  search rules,
  λ position row item early. absurd (omega (arith, early)),
  λ position d from. search rules,
  λ before new own is has. none_spent c.args.machine.now c.args.image.now c.args.cert.now c.args.edited c.args.one c.args.other before new c.args.items.now is own has c.args.steps.now,
)

pub returns-clause-steps : goal.returns-clause-steps
returns-clause-steps g c = λ before new own others is_before has have.
    let whole : length c.args.cert.now.rows ≤ c.loop-position.position = search rules in
    all_spent c.args.machine.now c.args.image.now c.args.cert.now c.args.edited c.args.one c.args.other before new c.args.items.now is_before own has c.args.steps.now
    c.loop-position.position c.loop-position.steps others whole (c.loop-position.invariant.3 before new own is_before has) have
