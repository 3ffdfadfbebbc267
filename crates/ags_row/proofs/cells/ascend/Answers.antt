use Rattle.std.proofs.Common.{◌≡◌, ◌+◌, ◌<◌, ◌≤◌, ℕ, suc, true, false, refl, sym, ap, ◌∙◌, ◌∷◌, List, length, get_or, drop, arith}
use Rattle.std.proofs.Math.Bool.{and-false}
use Rattle.std.proofs.lemmas.List.{drop_all}
use Rattle.std.specs.Prelude.{nat_le, nat_lt}
use Rattle.std.proofs.Math.Seq.{drop-cons}
use Rattle.std.proofs.lemmas.Bool.Decides.{nat_tests}
use Rattle.ags_row.specs.Cell.{cells_ascend}
use Rattle.ags_row.specs.declared.ats.At.{At}
use Rattle.ags_row.proofs.cells.ascend.Goals as goal
use Rattle.ags_row.proofs.cells.ascend.Goals.{then-cell-from-via-then-cell-from, then-cell-from-via-else-cell-from+then-cell-ge-ERASABLE}

-- what is left begins with the next one
left_at : {X : Type 0} (xs : List X) (i : ℕ) (x : X) → x ≡ get_or xs i x → i < length xs → drop i xs ≡ x ∷ drop (i + 1) xs
left_at xs i x is inside =
    let next : suc i ≡ i + 1 = omega arith in
    drop-cons xs i x inside ∙ ap (λ y. y ∷ drop (suc i) xs) (sym is) ∙ ap (λ n. x ∷ drop n xs) next

-- where the next cell stands high enough and is erasable, the rest decide
rest_decides : {D : Type 0} (from : ℕ) (cells rest : List (At D)) (cell : At D) → cells ≡ cell ∷ rest → from ≤ cell.address
    → cell.address < 2048 → cells_ascend from cells ≡ cells_ascend (cell.address + 1) rest
rest_decides from cells rest cell is above below =
    let high : nat_le from cell.address ≡ true = grind (arith, nat_tests) in
    let low : nat_lt cell.address 2048 ≡ true = grind (arith, nat_tests) in
    rw is (rw high (rw low refl))

pub loop-cell-preserved : goal.loop-cell-preserved
loop-cell-preserved g c = (
  c.loop-cell.invariant.0 ∙ rest_decides c.loop-cell.from (drop c.loop-cell.cell-index c.args.cells.now) (drop (c.loop-cell.cell-index + 1) c.args.cells.now)
      c.cell-item.result (left_at c.args.cells.now c.loop-cell.cell-index c.cell-item.result c.cell-item.is c.loop-cell-test.true)
      c.if-cell-from.false c.if-cell-ge-ERASABLE.false,
  omega (arith, c.if-cell-ge-ERASABLE.false),
)

-- they do not ascend where the next cell stands too low, or is not erasable
stands_too_low : {D : Type 0} (from : ℕ) (cells rest : List (At D)) (cell : At D) → cells ≡ cell ∷ rest → cell.address < from
    → cells_ascend from cells ≡ false
stands_too_low from cells rest cell is low = let below : nat_le from cell.address ≡ false = grind (arith, nat_tests) in rw is (rw below refl)

is_not_erasable : {D : Type 0} (from : ℕ) (cells rest : List (At D)) (cell : At D) → cells ≡ cell ∷ rest → 2048 ≤ cell.address
    → cells_ascend from cells ≡ false
is_not_erasable from cells rest cell is high =
    let above : nat_lt cell.address 2048 ≡ false = grind (arith, nat_tests) in
    rw is (rw above (and-false (nat_le from cell.address)))

pub returns-then-cell-from : goal.returns-then-cell-from
returns-then-cell-from g c =
    let from = c.loop-cell.from in
    let rest = drop (c.loop-cell.cell-index + 1) c.args.cells.now in
    let left = drop c.loop-cell.cell-index c.args.cells.now in
    let is = left_at c.args.cells.now c.loop-cell.cell-index c.cell-item.result c.cell-item.is c.loop-cell-test.true in
    elim c.then-cell-from.branch [
      | then-cell-from-via-then-cell-from w ↦ sym (c.loop-cell.invariant.0 ∙ stands_too_low from left rest c.cell-item.result is w.if-cell-from.true)
      | then-cell-from-via-else-cell-from+then-cell-ge-ERASABLE w ↦ sym (c.loop-cell.invariant.0 ∙ is_not_erasable from left rest c.cell-item.result is w.if-cell-ge-ERASABLE.true)
    ]

pub returns : goal.returns
returns g c = sym (c.loop-cell.invariant.0 ∙ ap (cells_ascend c.loop-cell.from) (drop_all c.loop-cell.cell-index c.args.cells.now c.loop-cell-test.false))
