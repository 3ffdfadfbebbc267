use Rattle.std.proofs.Common.{◌∙◌, refl, sym}
use Rattle.std.proofs.lemmas.Result.{err_from_is_err_and}
use Rattle.ags_image.proofs.TapeLemmas.{sending_none, sending_skip, sending_more, sending_front, sending_all}
use Rattle.ags_image.proofs.tape_writing.send_tape.Goals as goal

pub loop-location-init : goal.loop-location-init
loop-location-init g c = record { sending = sending_none (g.K.Sink.told c.args.out.now) c.args.image.now; faults = refl }

pub loop-location-preserved-in_default : goal.loop-location-preserved-in_default
loop-location-preserved-in_default g c = record {
  sending = sending_skip (g.K.Sink.told c.args.out.now) (g.K.Sink.told c.loop-location.out) c.args.image.now c.loop-location.location
      c.loop-location.invariant.sending c.get.ensures.image c.loop-location-test.true (sym c.in_default.ensures.entry);
  faults = c.loop-location.invariant.faults;
}

pub returns-in_err-send-clause-front : goal.returns-in_err-send-clause-front
returns-in_err-send-clause-front g c =
    let p = err_from_is_err_and c.from_residual.result c.from_residual.ensures.1 in
    rw p.1 (sending_front (g.K.Sink.told c.args.out.now) (g.K.Sink.told c.loop-location.out) c.args.image.now c.loop-location.location
    c.loop-location.invariant.sending c.get.ensures.image c.loop-location-test.true (g.K.Sink.told c.send.new.out) c.in-Some.word (sym c.in-Some.ensures.entry) (rw c.line_of.ensures at c.in_err-send.ensures.front))

pub loop-location-preserved : goal.loop-location-preserved
loop-location-preserved g c = record {
  sending = sending_more (g.K.Sink.told c.args.out.now) (g.K.Sink.told c.loop-location.out) c.args.image.now c.loop-location.location
      c.loop-location.invariant.sending c.get.ensures.image c.loop-location-test.true (g.K.Sink.told c.send.new.out) c.in-Some.word (sym c.in-Some.ensures.entry) (rw c.line_of.ensures at c.in_ok-send.ensures.sent);
  faults = c.in_ok-send.ensures.faults.clean refl ∙ c.loop-location.invariant.faults;
}

pub returns-clause-sent : goal.returns-clause-sent
returns-clause-sent g c =
    sending_all (g.K.Sink.told c.args.out.now) (g.K.Sink.told c.loop-location.out) c.args.image.now c.loop-location.location c.loop-location.invariant.sending c.loop-location-test.false
