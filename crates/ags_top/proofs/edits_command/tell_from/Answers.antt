use Rattle.std.proofs.Common.{inl, subst, sym}
use Rattle.std.proofs.lemmas.Result.{err_from_is_err_and}
use Rattle.ags_cert.specs.Cert.{certificate_of}
use Rattle.ags_check.specs.Judging.{Judging}
use Rattle.ags_domain.specs.Value.{value_meaning}
use Rattle.ags_verdict.specs.Verdict.{IsVerdict}
use Rattle.ags_program.specs.Text.{verdict_line}
use Rattle.ags_image.specs.Image.{IsImage}
use Rattle.ags_ports.specs.Machine.{IsMachine}
use Rattle.ags_program.proofs.ReadingLemmas.{counted_on}
use Rattle.ags_top.proofs.TellingLemmas.{edits_say, line_said_in_part}
use Rattle.ags_top.proofs.edits_command.tell_from.Goals as goal

pub returns-in_err-send_line-clause-says : goal.returns-in_err-send_line-clause-says
returns-in_err-send_line-clause-says g c =
    let p = err_from_is_err_and c.from_residual.result c.from_residual.ensures.1 in
    let is = subst (λ (j : Judging). IsVerdict value_meaning j.machine j.image (certificate_of j.cert) c.verdict-verdict.result) c.in-Ok.ensures.book c.verdict-verdict.ensures.verdict in
    rw p.1 (inl (line_said_in_part c.args.pair c.args.edits.items (g.K.Sink.told c.args.out.now) (g.K.Sink.told c.args.out.now) (g.K.Sink.told c.send_line.new.out)
    c.verdict-verdict.result c.requires.source is c.book_of.ensures.machine c.book_of.ensures.image c.requires.lawful
    (c.in_err-send_line.ensures.front (verdict_line c.verdict-verdict.result) c.verdict_line.ensures)))

pub returns-in_err-send_line-clause-faults : goal.returns-in_err-send_line-clause-faults
returns-in_err-send_line-clause-faults g c =
    let p = err_from_is_err_and c.from_residual.result c.from_residual.ensures.1 in
    rw (p.1, p.2) c.in_err-send_line.ensures.faults

pub returns-clause-says : goal.returns-clause-says
returns-clause-says g c =
    let is = subst (λ (j : Judging). IsVerdict value_meaning j.machine j.image (certificate_of j.cert) c.verdict-verdict.result) c.in-Ok.ensures.book c.verdict-verdict.ensures.verdict in
    edits_say c.args.pair c.args.edits.items (g.K.Sink.told c.args.out.now) (g.K.Sink.told c.send_line.new.out) (g.K.Sink.told c.tell_each.new.out)
    c.verdict-verdict.result c.requires.source is c.tell_each.result
    (c.in_ok-send_line.ensures.sent (verdict_line c.verdict-verdict.result) c.verdict_line.ensures)
    (rw (c.in-Ok.ensures.book, c.verdict_status.ensures) at c.tell_each.ensures.tells)

pub returns-clause-faults : goal.returns-clause-faults
returns-clause-faults g c = counted_on _ _ _ _ c.in_ok-send_line.ensures.faults c.tell_each.ensures.faults

pub tell_each-requires-clause-machine : goal.tell_each-requires-clause-machine
tell_each-requires-clause-machine g c = subst (λ (j : Judging). IsMachine j.machine) (sym c.in-Ok.ensures.book) c.book_of.ensures.machine

pub tell_each-requires-clause-image : goal.tell_each-requires-clause-image
tell_each-requires-clause-image g c = subst (λ (j : Judging). IsImage j.image) (sym c.in-Ok.ensures.book) c.book_of.ensures.image
