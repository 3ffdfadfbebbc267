use Rattle.ags_tags.proofs.LineLemmas.{entry_operands, row_operands, one_operands, no_entry, no_row}
use Rattle.ags_tags.proofs.lines.read_operands.Goals as goal

pub returns-in_err-read_entry-in-Entry-clause-only : goal.returns-in_err-read_entry-in-Entry-clause-only
returns-in_err-read_entry-in-Entry-clause-only c = λ its are.
    absurd (no_entry c.args.keyword c.in-Entry.table c.args.text.now c.in-Entry.is c.in_err-read_entry-in-Entry.ensures.only its are)

pub returns-in_err-read_row-in-Row-clause-only : goal.returns-in_err-read_row-in-Row-clause-only
returns-in_err-read_row-in-Row-clause-only c = λ its are. absurd (no_row c.args.keyword c.args.text.now c.in-Row.is c.in_err-read_row-in-Row.ensures.only its are)

pub returns-in_ok-read_entry-in-Entry-clause-found : goal.returns-in_ok-read_entry-in-Entry-clause-found
returns-in_ok-read_entry-in-Entry-clause-found c = entry_operands c.args.keyword c.in-Entry.table c.args.text.now _ c.in-Entry.is c.in_ok-read_entry-in-Entry.ensures.found

pub returns-in_ok-read_entry-in-Entry-clause-only : goal.returns-in_ok-read_entry-in-Entry-clause-only
returns-in_ok-read_entry-in-Entry-clause-only c =
    one_operands c.args.keyword c.args.text.now _ (entry_operands c.args.keyword c.in-Entry.table c.args.text.now _ c.in-Entry.is c.in_ok-read_entry-in-Entry.ensures.found)

pub returns-in_ok-read_row-in-Row-clause-found : goal.returns-in_ok-read_row-in-Row-clause-found
returns-in_ok-read_row-in-Row-clause-found c = row_operands c.args.keyword c.args.text.now _ c.in-Row.is c.in_ok-read_row-in-Row.ensures.found

pub returns-in_ok-read_row-in-Row-clause-only : goal.returns-in_ok-read_row-in-Row-clause-only
returns-in_ok-read_row-in-Row-clause-only c =
    one_operands c.args.keyword c.args.text.now _ (row_operands c.args.keyword c.args.text.now _ c.in-Row.is c.in_ok-read_row-in-Row.ensures.found)
