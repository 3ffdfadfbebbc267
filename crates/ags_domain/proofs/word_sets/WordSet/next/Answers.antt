use Rattle.std.proofs.Common.{◌≡◌, ◌+◌, ◌<◌, ◌≤◌, ◌^◌, ◌∷◌, drop, true, sym, subst, ap, ◌∙◌, arith}
use Rattle.ags_domain.specs.WordSet.{lists, ascends_from}
use Rattle.ags_domain.specs.ListLaws.{drop_at, ascends_again, skipped, ascends_tail, ascends_lower, lists_head, lists_below}
use Rattle.ags_domain.proofs.word_sets.WordSet.next.Goals as goal

pub returns-then-from-number : goal.returns-then-from-number
returns-then-from-number c =
    let items = c.words-word-items.result.now in
    let i = c.loop-word.word-index in
    let x = c.word-item.result in
    let next : drop i items ≡ x ∷ drop (i + 1) items = drop_at items i x (omega arith) c.word-item.is in
    let is : items ≡ c.args.self.now.list = c.words-word-items.ensures.same in
    let from : c.args.from ≤ x = omega arith in
    let there : lists items x ≡ true = c.loop-word.invariant.1 x from ∙ ap (λ ws. lists ws x) next ∙ lists_head x (drop (i + 1) items) in
    let along : ascends_from 0 (x ∷ drop (i + 1) items) ≡ true = subst (λ ws. ascends_from 0 ws ≡ true) next c.loop-word.invariant.0 in
    let above : ascends_from x (x ∷ drop (i + 1) items) ≡ true = ascends_again x (drop (i + 1) items) along in
    let word : x < 2 ^ 18 = omega arith in (
      word,
      ap (λ ws. lists ws x) (sym is) ∙ there,
      from,
      λ v h k. ap (λ ws. lists ws v) (sym is) ∙ c.loop-word.invariant.1 v h ∙ ap (λ ws. lists ws v) next ∙ lists_below x (x ∷ drop (i + 1) items) v above k,
    )

pub loop-word-preserved : goal.loop-word-preserved
loop-word-preserved c =
    let items = c.words-word-items.result.now in
    let i = c.loop-word.word-index in
    let x = c.word-item.result in
    let next : drop i items ≡ x ∷ drop (i + 1) items = drop_at items i x (omega arith) c.word-item.is in
    let along : ascends_from 0 (x ∷ drop (i + 1) items) ≡ true = subst (λ ws. ascends_from 0 ws ≡ true) next c.loop-word.invariant.0 in (
      ascends_lower (x + 1) 0 (drop (i + 1) items) (omega arith) (ascends_tail 0 x (drop (i + 1) items) along),
      λ v h. c.loop-word.invariant.1 v h ∙ ap (λ ws. lists ws v) next ∙ skipped x v (drop (i + 1) items) (omega arith),
    )
