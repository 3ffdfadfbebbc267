use Rattle.std.proofs.Common.{refl, arith}
use Rattle.std.proofs.lemmas.Result.{err_from_is_err_and}
use Rattle.ags_outside.specs.Sink.{front_in_first}
use Rattle.ags_listing.proofs.SendingLemmas.{blank-lines, words-lines, wordless_none, wordless_zero, all_sent, part_sent}
use Rattle.ags_listing.proofs.writing.send_card.Goals as goal

pub returns-in_default-clause-sent : goal.returns-in_default-clause-sent
returns-in_default-clause-sent g c =
    rw (blank-lines c.args.source.now c.args.image.now c.args.number c.args.card.now (wordless_none c.args.image.now c.args.card.now c.in_default.not-Some)) c.send_blank.ensures.sent

pub returns-in_default-clause-front : goal.returns-in_default-clause-front
returns-in_default-clause-front g c =
    rw (blank-lines c.args.source.now c.args.image.now c.args.number c.args.card.now (wordless_none c.args.image.now c.args.card.now c.in_default.not-Some)) c.send_blank.ensures.front

pub returns-then-card-eq0-clause-sent : goal.returns-then-card-eq0-clause-sent
returns-then-card-eq0-clause-sent g c =
    rw (blank-lines c.args.source.now c.args.image.now c.args.number c.args.card.now (wordless_zero c.args.image.now c.args.card.now c.in-Some.place c.in-Some.is c.if-card-eq0.true)) c.send_blank-then-card-eq0.ensures.sent

pub returns-then-card-eq0-clause-front : goal.returns-then-card-eq0-clause-front
returns-then-card-eq0-clause-front g c =
    rw (blank-lines c.args.source.now c.args.image.now c.args.number c.args.card.now (wordless_zero c.args.image.now c.args.card.now c.in-Some.place c.in-Some.is c.if-card-eq0.true)) c.send_blank-then-card-eq0.ensures.front

pub returns-in_err-send_word-clause-front : goal.returns-in_err-send_word-clause-front
returns-in_err-send_word-clause-front g c =
    let p = err_from_is_err_and c.from_residual.result c.from_residual.ensures.1 in
    rw (p.1, words-lines c.args.source.now c.args.image.now c.args.number c.in-Some.place c.args.card.now c.in-Some.is (omega (arith, c.if-card-eq0.false)))
    (front_in_first _ _ (rw c.from-place.ensures at c.in_err-send_word.ensures.front))

pub returns-clause-sent : goal.returns-clause-sent
returns-clause-sent g c =
    all_sent c.send_further.result (g.K.Sink.told c.args.out.now) (g.K.Sink.told c.send_word.new.out) (g.K.Sink.told c.send_further.new.out) _ _ _
    (words-lines c.args.source.now c.args.image.now c.args.number c.in-Some.place c.args.card.now c.in-Some.is (omega (arith, c.if-card-eq0.false)))
    (rw c.from-place.ensures at c.in_ok-send_word.ensures.sent) (rw c.from-place.ensures at c.send_further.ensures.sent)

pub returns-clause-front : goal.returns-clause-front
returns-clause-front g c =
    part_sent c.send_further.result (g.K.Sink.told c.args.out.now) (g.K.Sink.told c.send_word.new.out) (g.K.Sink.told c.send_further.new.out) _ _ _
    (words-lines c.args.source.now c.args.image.now c.args.number c.in-Some.place c.args.card.now c.in-Some.is (omega (arith, c.if-card-eq0.false)))
    (rw c.from-place.ensures at c.in_ok-send_word.ensures.sent) (rw c.from-place.ensures at c.send_further.ensures.front)

pub returns-in_default-clause-faults : goal.returns-in_default-clause-faults
returns-in_default-clause-faults g c = c.send_blank.ensures.faults

pub returns-then-card-eq0-clause-faults : goal.returns-then-card-eq0-clause-faults
returns-then-card-eq0-clause-faults g c = c.send_blank-then-card-eq0.ensures.faults

pub returns-in_err-send_word-clause-sent : goal.returns-in_err-send_word-clause-sent
returns-in_err-send_word-clause-sent g c = rw ((err_from_is_err_and c.from_residual.result c.from_residual.ensures.1).1) tt

pub returns-in_err-send_word-clause-faults : goal.returns-in_err-send_word-clause-faults
returns-in_err-send_word-clause-faults g c =
    let p = err_from_is_err_and c.from_residual.result c.from_residual.ensures.1 in
    rw (p.1, p.2) c.in_err-send_word.ensures.faults

pub returns-clause-faults : goal.returns-clause-faults
returns-clause-faults g c = rw (c.in_ok-send_word.ensures.faults.clean refl) at c.send_further.ensures.faults
