use Rattle.std.proofs.Common.{◌∙◌, refl}
use Rattle.std.proofs.lemmas.Result.{err_from_is_err_and}
use Rattle.ags_xref.proofs.SendingLemmas.{unfailed, Sending-more, Sending-front, Sending-all}
use Rattle.ags_xref.proofs.sending.send_lines.Goals as goal

pub returns-in_err-send_line-clause-front : goal.returns-in_err-send_line-clause-front
returns-in_err-send_line-clause-front g c =
    let p = err_from_is_err_and c.from_residual.result c.from_residual.ensures.1 in
    rw p.1 (Sending-front (g.K.Sink.told c.args.out.now) (g.K.Sink.told c.loop-index.out) (g.K.Sink.told c.send_line.new.out) c.args.rows.now c.args.naming.now c.loop-index.index
    c.index-rows-index.result c.index-naming-index.result c.loop-index.invariant.sending c.loop-index-test.true c.requires c.index-rows-index.is c.index-naming-index.is
    (rw c.deref.ensures.value at c.in_err-send_line.ensures.front))

pub loop-index-preserved : goal.loop-index-preserved
loop-index-preserved g c = record {
  sending = Sending-more (g.K.Sink.told c.args.out.now) (g.K.Sink.told c.loop-index.out) (g.K.Sink.told c.send_line.new.out) c.args.rows.now c.args.naming.now c.loop-index.index
      c.index-rows-index.result c.index-naming-index.result c.loop-index.invariant.sending c.loop-index-test.true c.requires c.index-rows-index.is c.index-naming-index.is
      (rw c.deref.ensures.value at c.in_ok-send_line.ensures.sent);
  faults = c.in_ok-send_line.ensures.faults.clean refl ∙ c.loop-index.invariant.faults;
}

pub returns-clause-sent : goal.returns-clause-sent
returns-clause-sent g c =
    Sending-all (g.K.Sink.told c.args.out.now) (g.K.Sink.told c.loop-index.out) c.args.rows.now c.args.naming.now c.loop-index.index c.loop-index.invariant.sending c.loop-index-test.false

pub returns-in_err-send_line-clause-sent : goal.returns-in_err-send_line-clause-sent
returns-in_err-send_line-clause-sent g c = rw ((err_from_is_err_and c.from_residual.result c.from_residual.ensures.1).1) tt

pub returns-in_err-send_line-clause-faults : goal.returns-in_err-send_line-clause-faults
returns-in_err-send_line-clause-faults g c =
    let p = err_from_is_err_and c.from_residual.result c.from_residual.ensures.1 in
    rw (p.1, p.2, ← c.loop-index.invariant.faults) c.in_err-send_line.ensures.faults

pub returns-clause-front : goal.returns-clause-front
returns-clause-front g c = tt

pub returns-clause-faults : goal.returns-clause-faults
returns-clause-faults g c = unfailed (g.K.Sink.faults c.args.out.now) (g.K.Sink.faults c.loop-index.out) c.loop-index.invariant.faults
