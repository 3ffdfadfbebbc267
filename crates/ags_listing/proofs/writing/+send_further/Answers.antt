use Rattle.std.proofs.Common.{refl, sym, arith}
use Rattle.std.proofs.lemmas.Result.{err_from_is_err_and}
use Rattle.ags_outside.specs.Sink.{appended_nothing, front_in_first}
use Rattle.ags_listing.proofs.SendingLemmas.{further-none, further-some, all_sent, part_sent}
use Rattle.ags_listing.proofs.writing.+send_further.Goals as goal

pub returns-then-count-eq0-clause-sent : goal.returns-then-count-eq0-clause-sent
returns-then-count-eq0-clause-sent g t c = rw (c.if-count-eq0.true, further-none c.args.image.now c.args.number c.args.place) (sym (appended_nothing (g.K.Sink.told c.args.out.now)))

pub returns-in_err-send_word-clause-front : goal.returns-in_err-send_word-clause-front
returns-in_err-send_word-clause-front g t c =
    let p = err_from_is_err_and c.from_residual.result c.from_residual.ensures.1 in
    rw (p.1, further-some c.args.image.now c.args.number c.args.place c.args.count (omega (arith, c.if-count-eq0.false))) (front_in_first _ _ c.in_err-send_word.ensures.front)

pub returns-clause-sent : goal.returns-clause-sent
returns-clause-sent g t c =
    all_sent c.send_further.result (g.K.Sink.told c.args.out.now) (g.K.Sink.told c.send_word.new.out) (g.K.Sink.told c.send_further.new.out) _ _ _ (further-some c.args.image.now c.args.number c.args.place c.args.count (omega (arith, c.if-count-eq0.false)))
    c.in_ok-send_word.ensures.sent c.send_further.ensures.sent

pub returns-clause-front : goal.returns-clause-front
returns-clause-front g t c =
    part_sent c.send_further.result (g.K.Sink.told c.args.out.now) (g.K.Sink.told c.send_word.new.out) (g.K.Sink.told c.send_further.new.out) _ _ _ (further-some c.args.image.now c.args.number c.args.place c.args.count (omega (arith, c.if-count-eq0.false)))
    c.in_ok-send_word.ensures.sent c.send_further.ensures.front

pub returns-in_err-send_word-clause-sent : goal.returns-in_err-send_word-clause-sent
returns-in_err-send_word-clause-sent g t c = rw ((err_from_is_err_and c.from_residual.result c.from_residual.ensures.1).1) tt

pub returns-in_err-send_word-clause-faults : goal.returns-in_err-send_word-clause-faults
returns-in_err-send_word-clause-faults g t c =
    let p = err_from_is_err_and c.from_residual.result c.from_residual.ensures.1 in
    rw (p.1, p.2) c.in_err-send_word.ensures.faults

pub returns-clause-faults : goal.returns-clause-faults
returns-clause-faults g t c = rw (c.in_ok-send_word.ensures.faults.clean refl) at c.send_further.ensures.faults
