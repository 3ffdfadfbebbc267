use Rattle.std.specs.List.{flat_map}
use Rattle.std.proofs.lemmas.Result.{err_from_is_err_and, on_ok_weaker, on_err_weaker}
use Rattle.ags_certtext.specs.declared.statements.Statement.TheVariants.{Start, End}
use Rattle.ags_certsend.specs.Spelled.{statement_line}
use Rattle.ags_certsend.specs.CertText.{first_line, has_links}
use Rattle.ags_certsend.specs.Section.{kinds_text, row_lines}
use Rattle.ags_certsend.proofs.SendLemmas.{cert_cut, front_1, front_2, front_3, front_4, front_5, all_5}
use Rattle.ags_certsend.proofs.writing.send_parts.Goals as goal

pub returns-in_err-send-clause-front : goal.returns-in_err-send-clause-front
returns-in_err-send-clause-front g c =
    let p = err_from_is_err_and c.from_residual.result c.from_residual.ensures.1 in
    rw (p.1, cert_cut c.args.cert.now) (front_1 (first_line (has_links c.args.cert.now.rows)) (statement_line (Start c.args.cert.now.start)) (kinds_text c.args.cert.now) (flat_map row_lines c.args.cert.now.rows) (statement_line End) (g.K.Sink.told c.args.out.now) (g.K.Sink.told c.send.new.out) (rw c.first_line.ensures at c.in_err-send.ensures.front))

pub returns-in_err-send_statement-clause-front : goal.returns-in_err-send_statement-clause-front
returns-in_err-send_statement-clause-front g c =
    let p = err_from_is_err_and c.from_residual-in_err-send_statement.result c.from_residual-in_err-send_statement.ensures.1 in
    rw (p.1, cert_cut c.args.cert.now) (front_2 (first_line (has_links c.args.cert.now.rows)) (statement_line (Start c.args.cert.now.start)) (kinds_text c.args.cert.now) (flat_map row_lines c.args.cert.now.rows) (statement_line End) (g.K.Sink.told c.args.out.now) (g.K.Sink.told c.send.new.out) (g.K.Sink.told c.send_statement.new.out) (rw c.first_line.ensures at c.in_ok-send.ensures.sent) (rw c.start.ensures.start at c.in_err-send_statement.ensures.front))

pub returns-in_err-send_kinds-clause-front : goal.returns-in_err-send_kinds-clause-front
returns-in_err-send_kinds-clause-front g c =
    let p = err_from_is_err_and c.from_residual-in_err-send_kinds.result c.from_residual-in_err-send_kinds.ensures.1 in
    rw (p.1, cert_cut c.args.cert.now) (front_3 (first_line (has_links c.args.cert.now.rows)) (statement_line (Start c.args.cert.now.start)) (kinds_text c.args.cert.now) (flat_map row_lines c.args.cert.now.rows) (statement_line End) (g.K.Sink.told c.args.out.now) (g.K.Sink.told c.send.new.out) (g.K.Sink.told c.send_statement.new.out) (g.K.Sink.told c.send_kinds.new.out) (rw c.first_line.ensures at c.in_ok-send.ensures.sent) (rw c.start.ensures.start at c.in_ok-send_statement.ensures.sent) c.in_err-send_kinds.ensures.front)

pub returns-in_err-send_rows-clause-front : goal.returns-in_err-send_rows-clause-front
returns-in_err-send_rows-clause-front g c =
    let p = err_from_is_err_and c.from_residual-in_err-send_rows.result c.from_residual-in_err-send_rows.ensures.1 in
    rw (p.1, cert_cut c.args.cert.now) (front_4 (first_line (has_links c.args.cert.now.rows)) (statement_line (Start c.args.cert.now.start)) (kinds_text c.args.cert.now) (flat_map row_lines c.args.cert.now.rows) (statement_line End) (g.K.Sink.told c.args.out.now) (g.K.Sink.told c.send.new.out) (g.K.Sink.told c.send_statement.new.out) (g.K.Sink.told c.send_kinds.new.out) (g.K.Sink.told c.send_rows.new.out) (rw c.first_line.ensures at c.in_ok-send.ensures.sent) (rw c.start.ensures.start at c.in_ok-send_statement.ensures.sent) c.in_ok-send_kinds.ensures.sent (rw c.rows.ensures.rows at c.in_err-send_rows.ensures.front))

pub returns-clause-sent : goal.returns-clause-sent
returns-clause-sent g c = on_ok_weaker c.send_statement-2.result (λ sent. rw (cert_cut c.args.cert.now) (all_5 (first_line (has_links c.args.cert.now.rows)) (statement_line (Start c.args.cert.now.start)) (kinds_text c.args.cert.now) (flat_map row_lines c.args.cert.now.rows) (statement_line End) (g.K.Sink.told c.args.out.now) (g.K.Sink.told c.send.new.out) (g.K.Sink.told c.send_statement.new.out) (g.K.Sink.told c.send_kinds.new.out) (g.K.Sink.told c.send_rows.new.out) (g.K.Sink.told c.send_statement-2.new.out) (rw c.first_line.ensures at c.in_ok-send.ensures.sent) (rw c.start.ensures.start at c.in_ok-send_statement.ensures.sent) c.in_ok-send_kinds.ensures.sent (rw c.rows.ensures.rows at c.in_ok-send_rows.ensures.sent) sent)) c.send_statement-2.ensures.sent

pub returns-clause-front : goal.returns-clause-front
returns-clause-front g c = on_err_weaker c.send_statement-2.result (λ front. rw (cert_cut c.args.cert.now) (front_5 (first_line (has_links c.args.cert.now.rows)) (statement_line (Start c.args.cert.now.start)) (kinds_text c.args.cert.now) (flat_map row_lines c.args.cert.now.rows) (statement_line End) (g.K.Sink.told c.args.out.now) (g.K.Sink.told c.send.new.out) (g.K.Sink.told c.send_statement.new.out) (g.K.Sink.told c.send_kinds.new.out) (g.K.Sink.told c.send_rows.new.out) (g.K.Sink.told c.send_statement-2.new.out) (rw c.first_line.ensures at c.in_ok-send.ensures.sent) (rw c.start.ensures.start at c.in_ok-send_statement.ensures.sent) c.in_ok-send_kinds.ensures.sent (rw c.rows.ensures.rows at c.in_ok-send_rows.ensures.sent) front)) c.send_statement-2.ensures.front
