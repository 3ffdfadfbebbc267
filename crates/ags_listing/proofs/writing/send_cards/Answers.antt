use Rattle.std.proofs.Common.{◌∙◌, get_or, refl, arith}
use Rattle.std.proofs.lemmas.Result.{err_from_is_err_and}
use Rattle.ags_listing.proofs.SendingLemmas.{nothing_placed, unfailed, Sending-none, Sending-span, Sending-more, Sending-front, Sending-all}
use Rattle.ags_listing.proofs.writing.send_cards.Goals as goal

pub loop-index-init : goal.loop-index-init
loop-index-init g c = record { sending = Sending-none (g.K.Sink.told c.args.out.now) c.args.source.now c.args.image.now c.args.placed.now c.requires.spans; faults = refl }

pub send_card-requires : goal.send_card-requires
send_card-requires g c =
    let lies = Sending-span (g.K.Sink.told c.args.out.now) (g.K.Sink.told c.loop-index.out) c.args.source.now c.args.image.now c.args.placed.now c.loop-index.index (get_or c.args.placed.now c.loop-index.index nothing_placed)
    c.loop-index.invariant.sending c.loop-index-test.true refl in
    record { image = c.requires.image; ordered = lies.1; within = lies.2 }

pub overflow_cast-index : goal.overflow_cast-index
overflow_cast-index g c = omega (arith, c.requires.short, c.loop-index.invariant.sending.few, c.loop-index.invariant.sending.short)

pub overflow_add-index : goal.overflow_add-index
overflow_add-index g c = omega (arith, c.requires.short, c.loop-index.invariant.sending.few, c.loop-index.invariant.sending.short)

pub returns-in_err-send_card-clause-front : goal.returns-in_err-send_card-clause-front
returns-in_err-send_card-clause-front g c =
    let p = err_from_is_err_and c.from_residual.result c.from_residual.ensures.1 in
    rw p.1 (Sending-front (g.K.Sink.told c.args.out.now) (g.K.Sink.told c.loop-index.out) (g.K.Sink.told c.send_card.new.out) c.args.source.now c.args.image.now c.args.placed.now c.loop-index.index (get_or c.args.placed.now c.loop-index.index nothing_placed)
    c.loop-index.invariant.sending c.loop-index-test.true refl c.in_err-send_card.ensures.front)

pub loop-index-preserved : goal.loop-index-preserved
loop-index-preserved g c = record {
  sending = Sending-more (g.K.Sink.told c.args.out.now) (g.K.Sink.told c.loop-index.out) (g.K.Sink.told c.send_card.new.out) c.args.source.now c.args.image.now c.args.placed.now c.loop-index.index (get_or c.args.placed.now c.loop-index.index nothing_placed)
      c.loop-index.invariant.sending c.loop-index-test.true refl c.in_ok-send_card.ensures.sent;
  faults = c.in_ok-send_card.ensures.faults.clean refl ∙ c.loop-index.invariant.faults;
}

pub returns-clause-sent : goal.returns-clause-sent
returns-clause-sent g c =
    Sending-all (g.K.Sink.told c.args.out.now) (g.K.Sink.told c.loop-index.out) c.args.source.now c.args.image.now c.args.placed.now c.loop-index.index c.loop-index.invariant.sending c.loop-index-test.false

pub returns-in_err-send_card-clause-sent : goal.returns-in_err-send_card-clause-sent
returns-in_err-send_card-clause-sent g c = rw ((err_from_is_err_and c.from_residual.result c.from_residual.ensures.1).1) tt

pub returns-in_err-send_card-clause-faults : goal.returns-in_err-send_card-clause-faults
returns-in_err-send_card-clause-faults g c =
    let p = err_from_is_err_and c.from_residual.result c.from_residual.ensures.1 in
    rw (p.1, p.2, ← c.loop-index.invariant.faults) c.in_err-send_card.ensures.faults

pub returns-clause-front : goal.returns-clause-front
returns-clause-front g c = tt

pub returns-clause-faults : goal.returns-clause-faults
returns-clause-faults g c = unfailed (g.K.Sink.faults c.args.out.now) (g.K.Sink.faults c.loop-index.out) c.loop-index.invariant.faults
