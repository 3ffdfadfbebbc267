use Rattle.ags_edits.proofs.LineLemmas.{none_some, row_edit_some}
use Rattle.ags_edits.proofs.lines.read_row_edit.Goals as goal

pub returns-in_err-row-clause-only : goal.returns-in_err-row-clause-only
returns-in_err-row-clause-only c = λ its is. absurd (none_some its.row (c.in_err-row.ensures.only its.row (rw c.split_field.ensures.field is.number_is)))

pub returns-in_err-new-clause-only : goal.returns-in_err-new-clause-only
returns-in_err-new-clause-only c = λ its is.
    absurd (none_some its.new (c.in_err-new.ensures.only its.new (rw c.split_field.ensures.behind is.row_is)))

pub returns-clause-found : goal.returns-clause-found
returns-clause-found c = record {
  number_is = rw c.split_field.ensures.field at c.in_ok-row.ensures.found;
  row_is = rw c.split_field.ensures.behind at c.in_ok-new.ensures.found;
}

pub returns-clause-only : goal.returns-clause-only
returns-clause-only c = λ its is.
    row_edit_some c.in_ok-row.row c.in_ok-new.new its (c.in_ok-row.ensures.only its.row (rw c.split_field.ensures.field is.number_is))
    (c.in_ok-new.ensures.only its.new (rw c.split_field.ensures.behind is.row_is))
