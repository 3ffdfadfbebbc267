use Rattle.std.proofs.Common.{◌≡◌, ◌-◌, arith}
use Rattle.ags_xref.proofs.SendingLemmas.{blanks_more}
use Rattle.ags_xref.proofs.writing.push_blanks.Goals as goal

pub loop-preserved : goal.loop-preserved
loop-preserved c = record {
  filled = blanks_more _ _ _ _ _ c.loop.invariant.filled c.in_ok-push.ensures.items (omega (arith, c.loop.invariant.least));
  least = omega (arith, c.loop.invariant.least);
  most = omega (arith, c.loop.invariant.most, c.loop-test.true, c.loop.invariant.least);
}

pub returns : goal.returns
returns c =
    let all : c.loop.counter - c.args.length ≡ c.args.width - c.args.length = omega (arith, c.loop.invariant.least, c.loop.invariant.most, c.loop-test.false) in
    rw all at c.loop.invariant.filled
