use Rattle.std.specs.List.{flat_map}
use Rattle.std.proofs.lemmas.Result.{err_from_is_err_and, on_ok_weaker, on_err_weaker}
use Rattle.ags_certtext.specs.declared.statements.Statement.TheVariants.{Row}
use Rattle.ags_certsend.specs.Spelled.{statement_line}
use Rattle.ags_certsend.specs.CertText.{row_line_of}
use Rattle.ags_certsend.specs.Section.{cell_line, link_lines}
use Rattle.ags_certsend.proofs.SendLemmas.{row_cut, first_front, second_front, third_front, all_3}
use Rattle.ags_certsend.proofs.writing.send_row.Goals as goal

pub returns-in_err-send_statement-clause-front : goal.returns-in_err-send_statement-clause-front
returns-in_err-send_statement-clause-front g c =
    let row = c.args.row.now in
    let p = err_from_is_err_and c.from_residual.result c.from_residual.ensures.1 in
    rw (p.1, row_cut row) (first_front (statement_line (Row (row_line_of row))) (flat_map cell_line row.at) (link_lines row.link) (g.K.Sink.told c.args.out.now)
    (g.K.Sink.told c.send_statement.new.out) (rw c.row_line.ensures at c.in_err-send_statement.ensures.front))

pub returns-in_err-send_cells-clause-front : goal.returns-in_err-send_cells-clause-front
returns-in_err-send_cells-clause-front g c =
    let row = c.args.row.now in
    let p = err_from_is_err_and c.from_residual-in_err-send_cells.result c.from_residual-in_err-send_cells.ensures.1 in
    rw (p.1, row_cut row) (second_front (statement_line (Row (row_line_of row))) (flat_map cell_line row.at) (link_lines row.link) (g.K.Sink.told c.args.out.now)
    (g.K.Sink.told c.send_statement.new.out) (g.K.Sink.told c.send_cells.new.out) (rw c.row_line.ensures at c.in_ok-send_statement.ensures.sent)
    (rw c.at.ensures at c.in_err-send_cells.ensures.front))

pub returns-clause-sent : goal.returns-clause-sent
returns-clause-sent g c = on_ok_weaker c.send_link.result (λ sent.
    rw (row_cut c.args.row.now) (all_3 (statement_line (Row (row_line_of c.args.row.now))) (flat_map cell_line c.args.row.now.at) (link_lines c.args.row.now.link)
    (g.K.Sink.told c.args.out.now) (g.K.Sink.told c.send_statement.new.out) (g.K.Sink.told c.send_cells.new.out) (g.K.Sink.told c.send_link.new.out)
    (rw c.row_line.ensures at c.in_ok-send_statement.ensures.sent) (rw c.at.ensures at c.in_ok-send_cells.ensures.sent) sent)) (rw c.link.ensures at c.send_link.ensures.sent)

pub returns-clause-front : goal.returns-clause-front
returns-clause-front g c = on_err_weaker c.send_link.result (λ front.
    rw (row_cut c.args.row.now) (third_front (statement_line (Row (row_line_of c.args.row.now))) (flat_map cell_line c.args.row.now.at) (link_lines c.args.row.now.link)
    (g.K.Sink.told c.args.out.now) (g.K.Sink.told c.send_statement.new.out) (g.K.Sink.told c.send_cells.new.out) (g.K.Sink.told c.send_link.new.out)
    (rw c.row_line.ensures at c.in_ok-send_statement.ensures.sent) (rw c.at.ensures at c.in_ok-send_cells.ensures.sent) front)) (rw c.link.ensures at c.send_link.ensures.front)
