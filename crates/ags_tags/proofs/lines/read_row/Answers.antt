use Rattle.ags_text.specs.Field.{AreBlanks}
use Rattle.ags_tags.specs.Operand.{IsRowEntry}
use Rattle.ags_tags.proofs.LineLemmas.{none_some, row_alone, row_found_there}
use Rattle.ags_tags.proofs.lines.read_row.Goals as goal
use Rattle.ags_tags.proofs.lines.read_row.Goals.{After-then_some}

-- the row and the tags are those of the text's fields
is_row : (c : After-then_some) → AreBlanks c.split_field-3.result.1.now → IsRowEntry c.args.text.now (record { row = c.in_ok-row.row; tags = record { a = c.in_ok-a.a; q = c.in_ok-q.q } })
is_row c ends = record {
  row_is = rw c.split_field.ensures.field at c.in_ok-row.ensures.found;
  a_is = rw (c.split_field-2.ensures.field, c.split_field.ensures.behind) at c.in_ok-a.ensures.found;
  q_is = rw (c.split_field-3.ensures.field, c.split_field-2.ensures.behind, c.split_field.ensures.behind) at c.in_ok-q.ensures.found;
  ends = rw (c.split_field-3.ensures.behind, c.split_field-2.ensures.behind, c.split_field.ensures.behind) at ends;
}

pub returns-in_err-row-clause-only : goal.returns-in_err-row-clause-only
returns-in_err-row-clause-only c = λ its is. absurd (none_some its.row (c.in_err-row.ensures.only its.row (rw c.split_field.ensures.field is.row_is)))

pub returns-in_err-a-clause-only : goal.returns-in_err-a-clause-only
returns-in_err-a-clause-only c = λ its is.
    absurd (none_some its.tags.a (c.in_err-a.ensures.only its.tags.a (rw (c.split_field-2.ensures.field, c.split_field.ensures.behind) is.a_is)))

pub returns-in_err-q-clause-only : goal.returns-in_err-q-clause-only
returns-in_err-q-clause-only c = λ its is.
    absurd (none_some its.tags.q (c.in_err-q.ensures.only its.tags.q (rw (c.split_field-3.ensures.field, c.split_field-2.ensures.behind, c.split_field.ensures.behind) is.q_is)))

pub returns-clause-found : goal.returns-clause-found
returns-clause-found c =
    row_found_there c.args.text.now c.split_field-3.result.1.now _ c.are_blanks.result c.then_some.result c.then_some.ensures c.are_blanks.ensures (is_row c)

pub returns-clause-only : goal.returns-clause-only
returns-clause-only c =
    row_alone c.args.text.now c.split_field-3.result.1.now _ c.are_blanks.result c.then_some.result c.then_some.ensures c.are_blanks.ensures (is_row c)
    (λ ends. rw (c.split_field-3.ensures.behind, c.split_field-2.ensures.behind, c.split_field.ensures.behind) ends)
