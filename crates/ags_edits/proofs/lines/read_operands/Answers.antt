use Rattle.ags_edits.proofs.LineLemmas.{no_row, no_word, one_operands, row_operands, word_operands}
use Rattle.ags_edits.proofs.lines.read_operands.Goals as goal

pub returns-in_err-read_word_edit-in-Word-clause-only : goal.returns-in_err-read_word_edit-in-Word-clause-only
returns-in_err-read_word_edit-in-Word-clause-only c = λ its are.
    absurd (no_word c.args.keyword c.args.text.now c.in-Word.is c.in_err-read_word_edit-in-Word.ensures.only its are)

pub returns-in_err-read_row_edit-in-Row-clause-only : goal.returns-in_err-read_row_edit-in-Row-clause-only
returns-in_err-read_row_edit-in-Row-clause-only c = λ its are.
    absurd (no_row c.args.keyword c.args.text.now c.in-Row.is c.in_err-read_row_edit-in-Row.ensures.only its are)

pub returns-in_ok-read_word_edit-in-Word-clause-found : goal.returns-in_ok-read_word_edit-in-Word-clause-found
returns-in_ok-read_word_edit-in-Word-clause-found c = word_operands c.args.keyword c.args.text.now _ c.in-Word.is c.in_ok-read_word_edit-in-Word.ensures.found

pub returns-in_ok-read_word_edit-in-Word-clause-only : goal.returns-in_ok-read_word_edit-in-Word-clause-only
returns-in_ok-read_word_edit-in-Word-clause-only c =
    one_operands c.args.keyword c.args.text.now _ (word_operands c.args.keyword c.args.text.now _ c.in-Word.is c.in_ok-read_word_edit-in-Word.ensures.found)

pub returns-in_ok-read_row_edit-in-Row-clause-found : goal.returns-in_ok-read_row_edit-in-Row-clause-found
returns-in_ok-read_row_edit-in-Row-clause-found c = row_operands c.args.keyword c.args.text.now _ c.in-Row.is c.in_ok-read_row_edit-in-Row.ensures.found

pub returns-in_ok-read_row_edit-in-Row-clause-only : goal.returns-in_ok-read_row_edit-in-Row-clause-only
returns-in_ok-read_row_edit-in-Row-clause-only c =
    one_operands c.args.keyword c.args.text.now _ (row_operands c.args.keyword c.args.text.now _ c.in-Row.is c.in_ok-read_row_edit-in-Row.ensures.found)
