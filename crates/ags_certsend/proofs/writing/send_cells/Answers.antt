use Rattle.std.proofs.Common.{◌∙◌, refl}
use Rattle.std.proofs.lemmas.Result.{err_from_is_err_and}
use Rattle.ags_certsend.specs.Section.{cell_line}
use Rattle.ags_certsend.proofs.SendLemmas.{sending_none, sending_more, sending_front, sending_all}
use Rattle.ags_certsend.proofs.writing.send_cells.Goals as goal

pub loop-cell-init : goal.loop-cell-init
loop-cell-init g c = record { sending = sending_none cell_line c.args.cells.now (g.K.Sink.told c.args.out.now); faults = refl }

pub returns-in_err-send_statement-clause-front : goal.returns-in_err-send_statement-clause-front
returns-in_err-send_statement-clause-front g c =
    let p = err_from_is_err_and c.from_residual.result c.from_residual.ensures.1 in
    rw p.1 (sending_front cell_line c.args.cells.now c.loop-cell.cell-index c.cell-item.result
    c.loop-cell.invariant.sending c.loop-cell-test.true c.cell-item.is c.in_err-send_statement.ensures.front)

pub loop-cell-preserved : goal.loop-cell-preserved
loop-cell-preserved g c = record {
  sending = sending_more cell_line c.args.cells.now c.loop-cell.cell-index c.cell-item.result
      c.loop-cell.invariant.sending c.loop-cell-test.true c.cell-item.is c.in_ok-send_statement.ensures.sent;
  faults = c.in_ok-send_statement.ensures.faults.clean refl ∙ c.loop-cell.invariant.faults;
}

pub returns-clause-sent : goal.returns-clause-sent
returns-clause-sent g c = sending_all cell_line c.args.cells.now c.loop-cell.cell-index c.loop-cell.invariant.sending c.loop-cell-test.false
