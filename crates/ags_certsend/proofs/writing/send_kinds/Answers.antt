use Rattle.std.proofs.lemmas.Result.{err_from_is_err_and, on_ok_weaker, on_err_weaker}
use Rattle.ags_certsend.specs.declared.sections.Section.TheVariants.{Cells, Starts, Inputs, Outputs, Places}
use Rattle.ags_certsend.specs.Section.{section_text, kinds_text}
use Rattle.ags_certsend.proofs.SendLemmas.{front_1, front_2, front_3, front_4, front_5, all_5}
use Rattle.ags_certsend.proofs.writing.send_kinds.Goals as goal

pub returns-in_err-send_section-clause-front : goal.returns-in_err-send_section-clause-front
unfolding kinds_text
returns-in_err-send_section-clause-front g c =
    let p = err_from_is_err_and c.from_residual.result c.from_residual.ensures.1 in
    rw (p.1) (front_1 (section_text Cells c.args.cert.now) (section_text Starts c.args.cert.now) (section_text Inputs c.args.cert.now) (section_text Outputs c.args.cert.now) (section_text Places c.args.cert.now) (g.K.Sink.told c.args.out.now) (g.K.Sink.told c.send_section.new.out) c.in_err-send_section.ensures.front)

pub returns-in_err-send_section-2-clause-front : goal.returns-in_err-send_section-2-clause-front
unfolding kinds_text
returns-in_err-send_section-2-clause-front g c =
    let p = err_from_is_err_and c.from_residual-in_err-send_section-2.result c.from_residual-in_err-send_section-2.ensures.1 in
    rw (p.1) (front_2 (section_text Cells c.args.cert.now) (section_text Starts c.args.cert.now) (section_text Inputs c.args.cert.now) (section_text Outputs c.args.cert.now) (section_text Places c.args.cert.now) (g.K.Sink.told c.args.out.now) (g.K.Sink.told c.send_section.new.out) (g.K.Sink.told c.send_section-2.new.out) c.in_ok-send_section.ensures.sent c.in_err-send_section-2.ensures.front)

pub returns-in_err-send_section-3-clause-front : goal.returns-in_err-send_section-3-clause-front
unfolding kinds_text
returns-in_err-send_section-3-clause-front g c =
    let p = err_from_is_err_and c.from_residual-in_err-send_section-3.result c.from_residual-in_err-send_section-3.ensures.1 in
    rw (p.1) (front_3 (section_text Cells c.args.cert.now) (section_text Starts c.args.cert.now) (section_text Inputs c.args.cert.now) (section_text Outputs c.args.cert.now) (section_text Places c.args.cert.now) (g.K.Sink.told c.args.out.now) (g.K.Sink.told c.send_section.new.out) (g.K.Sink.told c.send_section-2.new.out) (g.K.Sink.told c.send_section-3.new.out) c.in_ok-send_section.ensures.sent c.in_ok-send_section-2.ensures.sent c.in_err-send_section-3.ensures.front)

pub returns-in_err-send_section-4-clause-front : goal.returns-in_err-send_section-4-clause-front
unfolding kinds_text
returns-in_err-send_section-4-clause-front g c =
    let p = err_from_is_err_and c.from_residual-in_err-send_section-4.result c.from_residual-in_err-send_section-4.ensures.1 in
    rw (p.1) (front_4 (section_text Cells c.args.cert.now) (section_text Starts c.args.cert.now) (section_text Inputs c.args.cert.now) (section_text Outputs c.args.cert.now) (section_text Places c.args.cert.now) (g.K.Sink.told c.args.out.now) (g.K.Sink.told c.send_section.new.out) (g.K.Sink.told c.send_section-2.new.out) (g.K.Sink.told c.send_section-3.new.out) (g.K.Sink.told c.send_section-4.new.out) c.in_ok-send_section.ensures.sent c.in_ok-send_section-2.ensures.sent c.in_ok-send_section-3.ensures.sent c.in_err-send_section-4.ensures.front)

pub returns-clause-sent : goal.returns-clause-sent
unfolding kinds_text
returns-clause-sent g c = on_ok_weaker c.send_section-5.result (λ sent. (all_5 (section_text Cells c.args.cert.now) (section_text Starts c.args.cert.now) (section_text Inputs c.args.cert.now) (section_text Outputs c.args.cert.now) (section_text Places c.args.cert.now) (g.K.Sink.told c.args.out.now) (g.K.Sink.told c.send_section.new.out) (g.K.Sink.told c.send_section-2.new.out) (g.K.Sink.told c.send_section-3.new.out) (g.K.Sink.told c.send_section-4.new.out) (g.K.Sink.told c.send_section-5.new.out) c.in_ok-send_section.ensures.sent c.in_ok-send_section-2.ensures.sent c.in_ok-send_section-3.ensures.sent c.in_ok-send_section-4.ensures.sent sent)) c.send_section-5.ensures.sent

pub returns-clause-front : goal.returns-clause-front
unfolding kinds_text
returns-clause-front g c = on_err_weaker c.send_section-5.result (λ front. (front_5 (section_text Cells c.args.cert.now) (section_text Starts c.args.cert.now) (section_text Inputs c.args.cert.now) (section_text Outputs c.args.cert.now) (section_text Places c.args.cert.now) (g.K.Sink.told c.args.out.now) (g.K.Sink.told c.send_section.new.out) (g.K.Sink.told c.send_section-2.new.out) (g.K.Sink.told c.send_section-3.new.out) (g.K.Sink.told c.send_section-4.new.out) (g.K.Sink.told c.send_section-5.new.out) c.in_ok-send_section.ensures.sent c.in_ok-send_section-2.ensures.sent c.in_ok-send_section-3.ensures.sent c.in_ok-send_section-4.ensures.sent front)) c.send_section-5.ensures.front
