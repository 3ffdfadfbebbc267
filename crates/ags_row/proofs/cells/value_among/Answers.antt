use Rattle.std.proofs.Common.{◌+◌, ◌-◌, ◌/◌, sym, arith, ⊎_elim}
use Rattle.std.proofs.lemmas.Bool.{cases_lt}
use Rattle.ags_row.proofs.CellLemmas.{none_at, read_found, all_below, all_above}
use Rattle.ags_row.proofs.cells.value_among.Goals as goal

pub returns-then-cell-address : goal.returns-then-cell-address
returns-then-cell-address g c = read_found c.args.cells.now c.requires c.args.address (c.loop-low.low + (c.loop-low.high - c.loop-low.low) / 2)
    c.index-cells-middle.result (omega (arith, c.loop-low-test.true, c.loop-low.invariant.inside)) c.index-cells-middle.is c.if-cell-address.true

pub loop-low-preserved-then-cell-address-2 : goal.loop-low-preserved-then-cell-address-2
loop-low-preserved-then-cell-address-2 g c = record {
  inside = c.loop-low.invariant.inside;
  below = all_below c.args.cells.now c.requires c.args.address (c.loop-low.low + (c.loop-low.high - c.loop-low.low) / 2)
      c.index-cells-middle.result (omega (arith, c.loop-low-test.true, c.loop-low.invariant.inside)) c.index-cells-middle.is c.if-cell-address-2.true;
  above = c.loop-low.invariant.above;
}

pub loop-low-preserved : goal.loop-low-preserved
loop-low-preserved g c = record {
  inside = omega (arith, c.loop-low-test.true, c.loop-low.invariant.inside);
  below = c.loop-low.invariant.below;
  above = all_above c.args.cells.now c.requires c.args.address (c.loop-low.low + (c.loop-low.high - c.loop-low.low) / 2)
      c.index-cells-middle.result (omega (arith, c.loop-low-test.true, c.loop-low.invariant.inside)) c.index-cells-middle.is
      (omega (arith, c.if-cell-address.false, c.if-cell-address-2.false));
}

pub returns : goal.returns
returns g c = sym (none_at c.args.cells.now c.args.address (λ k d inside same. ⊎_elim
    (λ low. let below = c.loop-low.invariant.below k d low inside in omega arith)
    (λ high. let above = c.loop-low.invariant.above k d (omega (arith, c.loop-low-test.false)) inside in omega arith)
    (cases_lt k c.loop-low.low)))
