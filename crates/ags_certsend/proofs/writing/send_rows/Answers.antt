use Rattle.std.proofs.Common.{◌∙◌, refl}
use Rattle.std.proofs.lemmas.Result.{err_from_is_err_and}
use Rattle.ags_certsend.specs.Section.{row_lines}
use Rattle.ags_certsend.proofs.SendLemmas.{sending_none, sending_more, sending_front, sending_all}
use Rattle.ags_certsend.proofs.writing.send_rows.Goals as goal

pub loop-row-init : goal.loop-row-init
loop-row-init g c = record { sending = sending_none row_lines c.args.rows.now (g.K.Sink.told c.args.out.now); faults = refl }

pub returns-in_err-send_row-clause-front : goal.returns-in_err-send_row-clause-front
returns-in_err-send_row-clause-front g c =
    let p = err_from_is_err_and c.from_residual.result c.from_residual.ensures.1 in
    rw p.1 (sending_front row_lines c.args.rows.now c.loop-row.row-index c.row-item.result
    c.loop-row.invariant.sending c.loop-row-test.true c.row-item.is c.in_err-send_row.ensures.front)

pub loop-row-preserved : goal.loop-row-preserved
loop-row-preserved g c = record {
  sending = sending_more row_lines c.args.rows.now c.loop-row.row-index c.row-item.result
      c.loop-row.invariant.sending c.loop-row-test.true c.row-item.is c.in_ok-send_row.ensures.sent;
  faults = c.in_ok-send_row.ensures.faults.clean refl ∙ c.loop-row.invariant.faults;
}

pub returns-clause-sent : goal.returns-clause-sent
returns-clause-sent g c = sending_all row_lines c.args.rows.now c.loop-row.row-index c.loop-row.invariant.sending c.loop-row-test.false
