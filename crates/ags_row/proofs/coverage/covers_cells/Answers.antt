use Rattle.std.proofs.Common.{◌≡◌, ◌+◌, ◌<◌, ◌≤◌, ℕ, Bool, true, false, refl, sym, ◌∙◌, subst, List, length, get_or, take}
use Rattle.std.specs.Prelude.{All, IsTrue}
use Rattle.std.proofs.lemmas.List.{take_all}
use Rattle.std.proofs.lemmas.List.Elements.{All-get_or, All-more}
use Rattle.ags_domain.specs.Domain.{IsWithin}
use Rattle.ags_row.specs.Cover.{post_value}
use Rattle.ags_row.proofs.coverage.covers_cells.Goals as goal

-- where the test holds of one more, all up to it are as they should be
one_more : {X : Type 0} (P : X → Type 0) (xs : List X) (i : ℕ) (x : X) → x ≡ get_or xs i x → i < length xs → (b : Bool)
    → (IsTrue b → P x) → b ≡ true → All P (take i xs) → All P (take (i + 1) xs)
one_more P xs i x is inside b says holds before = All-more P xs i x inside before (subst P is (says holds))

-- where it fails of one, not all are
not_all : {X : Type 0} (P : X → Type 0) (xs : List X) (i : ℕ) (x : X) → x ≡ get_or xs i x → i < length xs → (b : Bool)
    → (P x → IsTrue b) → b ≡ false → (IsTrue false → All P xs) × (All P xs → IsTrue false)
not_all P xs i x is inside b says fails = (
  λ h. absurd (let both : true ≡ false = sym h in cc),
  λ all. sym fails ∙ says (subst P (sym is) (All-get_or P xs i x inside all)),
)

-- after the last one, all are
all_seen : {X : Type 0} (P : X → Type 0) (xs : List X) (i : ℕ) → length xs ≤ i → All P (take i xs)
    → (IsTrue true → All P xs) × (All P xs → IsTrue true)
all_seen P xs i past before = (λ h. subst (All P) (take_all i xs past) before, λ all. refl)

pub returns : goal.returns
returns g c = let a = c.args in
    all_seen (λ at. IsWithin g.D.Domain.meaning (post_value a.base.now a.limits.now a.post.now at.address) at.value)
    a.cells.now c.loop-cell.cell-index c.loop-cell-test.false c.loop-cell.invariant

pub loop-cell-preserved : goal.loop-cell-preserved
loop-cell-preserved g c = let a = c.args in
    one_more (λ at. IsWithin g.D.Domain.meaning (post_value a.base.now a.limits.now a.post.now at.address) at.value)
    a.cells.now c.loop-cell.cell-index c.cell-item.result c.cell-item.is c.loop-cell-test.true
    c.covers_cell.result c.covers_cell.ensures.0 c.if-not-covers_cell.false c.loop-cell.invariant

pub returns-then-not-covers_cell : goal.returns-then-not-covers_cell
returns-then-not-covers_cell g c = let a = c.args in
    not_all (λ at. IsWithin g.D.Domain.meaning (post_value a.base.now a.limits.now a.post.now at.address) at.value)
    a.cells.now c.loop-cell.cell-index c.cell-item.result c.cell-item.is c.loop-cell-test.true
    c.covers_cell.result c.covers_cell.ensures.1 c.if-not-covers_cell.true
