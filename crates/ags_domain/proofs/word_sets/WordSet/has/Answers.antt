use Rattle.std.proofs.Common.{◌≡◌, ℕ, List, ◌+◌, ◌∷◌, true, false, drop, sym, ap, ◌∙◌, refl}
use Rattle.std.specs.Prelude.{eqb}
use Rattle.std.proofs.lemmas.List.{drop_all}
use Rattle.ags_domain.specs.WordSet.{lists}
use Rattle.ags_domain.specs.ListLaws.{drop_at}
use Rattle.ags_domain.proofs.word_sets.WordSet.has.Goals as goal

found : (listed word : ℕ) (words : List ℕ) → eqb listed word ≡ true → lists (listed ∷ words) word ≡ true
found listed word words is = rw is refl

passed : (listed word : ℕ) (words : List ℕ) → eqb listed word ≡ false → lists (listed ∷ words) word ≡ lists words word
passed listed word words is = rw is refl

pub returns-then-eq : goal.returns-then-eq
returns-then-eq c =
    let items = c.words-listed-items.result.now in
    let i = c.loop-listed.listed-index in
    let x = c.listed-item.result in
    let word = c.args.word in
    let next = ap (λ words. lists words word) (drop_at items i x c.loop-listed-test.true c.listed-item.is) in
    rw (← c.words-listed-items.ensures.same) (sym (c.loop-listed.invariant ∙ next ∙ found x word (drop (i + 1) items) (sym c.eq.ensures ∙ c.if-eq.true)))

pub loop-listed-preserved : goal.loop-listed-preserved
loop-listed-preserved c =
    let items = c.words-listed-items.result.now in
    let i = c.loop-listed.listed-index in
    let x = c.listed-item.result in
    let word = c.args.word in
    let next = ap (λ words. lists words word) (drop_at items i x c.loop-listed-test.true c.listed-item.is) in
    c.loop-listed.invariant ∙ next ∙ passed x word (drop (i + 1) items) (sym c.eq.ensures ∙ c.if-eq.false)

pub returns : goal.returns
returns c =
    let none = ap (λ words. lists words c.args.word) (drop_all c.loop-listed.listed-index c.words-listed-items.result.now c.loop-listed-test.false) in
    rw (← c.words-listed-items.ensures.same) (sym (c.loop-listed.invariant ∙ none))
