use Rattle.std.proofs.Common.{arith}
use Rattle.ags_check.proofs.CoverageLemmas.{never}
use Rattle.ags_check.proofs.FindingLemmas.{numbered, found, none_further, none_found}
use Rattle.ags_check.proofs.finding.find_numbered.Goals as goal

pub overflow_sub-number : goal.overflow_sub-number
overflow_sub-number g c = (numbered (λ n r. g.T.RowTest.has c.args.test.now n r) c.args.rows.now c.args.numbers.now c.args.location c.requires.numbers
    c.loop-number.number-index c.loop-number-test.true).0

pub bounds-rows-number : goal.bounds-rows-number
bounds-rows-number g c = (numbered (λ n r. g.T.RowTest.has c.args.test.now n r) c.args.rows.now c.args.numbers.now c.args.location c.requires.numbers
    c.loop-number.number-index c.loop-number-test.true).1

pub returns-then-passes : goal.returns-then-passes
returns-then-passes g c = found (λ n r. g.T.RowTest.has c.args.test.now n r) c.args.rows.now c.args.numbers.now c.args.location c.requires.numbers
    c.loop-number.number-index c.index-rows-number.result c.loop-number-test.true c.index-rows-number.is (c.passes.ensures.0 c.if-passes.true)

pub loop-number-preserved : goal.loop-number-preserved
loop-number-preserved g c = none_further (λ n r. g.T.RowTest.has c.args.test.now n r) c.args.rows.now c.args.numbers.now c.args.location c.requires.numbers
    c.loop-number.number-index c.index-rows-number.result c.loop-number-test.true c.index-rows-number.is c.loop-number.invariant
    (never c.passes.result c.passes.ensures.1 c.if-passes.false)

pub returns : goal.returns
returns g c = none_found (λ n r. g.T.RowTest.has c.args.test.now n r) c.args.rows.now c.args.numbers.now c.args.location c.requires.numbers
    c.requires.there (λ i d near. c.loop-number.invariant i d (omega (arith, near, c.loop-number-test.false)))
