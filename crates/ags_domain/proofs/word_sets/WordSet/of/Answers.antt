use Rattle.std.proofs.Common.{◌≡◌, ℕ, List, ◌+◌, ◌<◌, ◌≤◌, ◌^◌, [], ◌∷◌, ◌++◌, true, false, take, drop, length, sym, ap, ◌∙◌, arith, refl}
use Rattle.std.specs.Prelude.{nat_le, nat_lt}
use Rattle.std.proofs.lemmas.Bool.Decides.{nat_tests}
use Rattle.std.proofs.lemmas.List.{take_all, take_more, drop_all}
use Rattle.ags_domain.specs.WordSet.{ascends_from}
use Rattle.ags_domain.specs.ListLaws.{drop_at}
use Rattle.ags_domain.proofs.word_sets.WordSet.of.Goals as goal

falls_short : (from word : ℕ) (words : List ℕ) → word < from → ascends_from from (word ∷ words) ≡ false
falls_short from word words h = let below : nat_le from word ≡ false = grind (arith, nat_tests) in rw below refl

goes_on : (from word : ℕ) (words : List ℕ) → from ≤ word → word < 2 ^ 18 → ascends_from from (word ∷ words) ≡ ascends_from (word + 1) words
goes_on from word words h k =
    let from_there : nat_le from word ≡ true = grind (arith, nat_tests) in
    let is_word : nat_lt word (2 ^ 18) ≡ true = grind (arith, nat_tests) in
    rw (from_there, is_word) refl

pub returns-then-number-from : goal.returns-then-number-from
returns-then-number-from c = λ some few.
    let words = c.args.words.now in
    let i = c.loop-word.word-index in
    let x = c.word-item.result in
    c.loop-word.invariant.1 ∙ ap (ascends_from c.loop-word.from) (drop_at words i x c.loop-word-test.true c.word-item.is)
    ∙ falls_short c.loop-word.from x (drop (i + 1) words) (rw c.number.ensures.same at c.if-number-from.true)

pub loop-word-preserved : goal.loop-word-preserved
loop-word-preserved c =
    let words = c.args.words.now in
    let i = c.loop-word.word-index in
    let x = c.word-item.result in
    let number = c.number.ensures.same in
    let word : x < 2 ^ 18 = rw number at c.number.ensures.below in
    let next = drop_at words i x c.loop-word-test.true c.word-item.is in
    let along = goes_on c.loop-word.from x (drop (i + 1) words) (rw number at c.if-number-from.false) word in
    rw c.number-from.ensures.same (
      c.push.ensures ∙ ap (λ taken. taken ++ x ∷ []) c.loop-word.invariant.0 ∙ ap (λ y. take i words ++ y ∷ []) c.word-item.is ∙ sym (take_more words i x c.loop-word-test.true),
      c.loop-word.invariant.1 ∙ ap (ascends_from c.loop-word.from) next ∙ along,
      omega arith,
    )

pub made-requires-clause-ascending : goal.made-requires-clause-ascending
made-requires-clause-ascending c =
    let words = c.args.words.now in
    let i = c.loop-word.word-index in
    rw (c.loop-word.invariant.0 ∙ take_all i words c.loop-word-test.false) (c.loop-word.invariant.1 ∙ ap (ascends_from c.loop-word.from) (drop_all i words c.loop-word-test.false))

pub returns : goal.returns
returns c = c.made.ensures ∙ c.loop-word.invariant.0 ∙ take_all c.loop-word.word-index c.args.words.now c.loop-word-test.false
