use Rattle.std.proofs.Common.{◌≡◌, ◌≤◌, ◌+◌, ◌*◌, ℕ, sym, subst, rules, arith, length}
use Rattle.ags_recheck.proofs.BookLemmas.{fails_row, further_row, few_more}
use Rattle.ags_recheck.proofs.books.rows_kept.Goals as goal

pub returns-in-Err : goal.returns-in-Err
returns-in-Err c =
    let number : c.loop-item.number + 1 ≡ c.loop-item.item-index + 1 = search rules in
    fails_row c.args.machine.now c.args.image.now c.args.cert.now c.args.items.now c.requires c.loop-item.item-index (c.loop-item.number + 1) number
    c.item-item.result c.told.result c.loop-item-test.true c.item-item.is c.told.ensures.counted c.told.ensures.refused c.loop-item.count c.loop-item.invariant.0
    c.in-Err.refusal c.in-Err.is

pub loop-item-preserved : goal.loop-item-preserved
loop-item-preserved c =
    let number : c.loop-item.number + 1 ≡ c.loop-item.item-index + 1 = search rules in (
      further_row c.args.machine.now c.args.image.now c.args.cert.now c.args.items.now c.requires c.loop-item.item-index (c.loop-item.number + 1) number
          c.item-item.result c.told.result c.loop-item-test.true c.item-item.is c.told.ensures.counted c.told.ensures.refused c.loop-item.count c.loop-item.invariant.0
          c.in-Ok.more c.in-Ok.is,
      number,
      (let few : c.in-Ok.more ≤ 256 = few_more c.args.machine.now c.args.image.now c.args.cert.now c.args.items.now c.requires c.loop-item.item-index (c.loop-item.number + 1) number
          c.item-item.result c.told.result c.loop-item-test.true c.item-item.is c.told.ensures.counted c.told.ensures.refused c.in-Ok.more c.in-Ok.is in
          let so_far : c.loop-item.count ≤ 256 * c.loop-item.item-index = c.loop-item.invariant.2 in
          omega (arith, few, so_far)),
    )

pub overflow_add-number : goal.overflow_add-number
overflow_add-number c =
    let whole : length c.args.items.now ≤ 20000 = subst (λ (n : ℕ). n ≤ 20000) (sym c.requires.whole) (search rules) in
    search rules

pub overflow_add-count : goal.overflow_add-count
overflow_add-count c =
    let number : c.loop-item.number + 1 ≡ c.loop-item.item-index + 1 = search rules in
    let few : c.in-Ok.more ≤ 256 = few_more c.args.machine.now c.args.image.now c.args.cert.now c.args.items.now c.requires c.loop-item.item-index (c.loop-item.number + 1) number
    c.item-item.result c.told.result c.loop-item-test.true c.item-item.is c.told.ensures.counted c.told.ensures.refused c.in-Ok.more c.in-Ok.is in
    let whole : length c.args.items.now ≤ 20000 = subst (λ (n : ℕ). n ≤ 20000) (sym c.requires.whole) (search rules) in
    let so_far : c.loop-item.count ≤ 256 * c.loop-item.item-index = c.loop-item.invariant.2 in
    search rules
