use Rattle.std.proofs.Common.{◌≡◌, ℕ, ap, ◌∙◌}
use Rattle.std.specs.Prelude.{Result, Ok, Err}
use Rattle.ags_domain.specs.declared.values.Value.{Value}
use Rattle.ags_row.specs.declared.ats.At.{At}
use Rattle.ags_row.specs.declared.rows.Row.{Row}
use Rattle.ags_certtype.specs.Cert.{Stated}
use Rattle.ags_certtype.specs.declared.edit_errors.EditError.{EditError}
use Rattle.ags_check.specs.Judging.{Judging}
use Rattle.ags_edits.specs.declared.edits.Edit.TheVariants as edit
use Rattle.ags_recheck.specs.Edited.{IsEdited}
use Rattle.ags_recheck.proofs.BookLemmas.{limit_refused, row_refused}
use Rattle.ags_recheck.proofs.books.Book.apply.Goals as goal

made_is_not_refused : (error : EditError) → ◌≡◌ {A = Result Unit EditError} (Ok tt) (Err error) → ⊥
made_is_not_refused error is = cc

limit_unchanged : (old new : Judging) (cell : At Value) (outcome : Result Unit EditError) (error : EditError) → IsEdited old (edit.Limit cell) outcome new
    → outcome ≡ Err error → new ≡ old
limit_unchanged old new cell outcome error edited is =
    edited.1 ∙ ap (λ (cert : Stated). record old { cert = cert }) (limit_refused old.cert new.cert cell error (rw is at edited.0))

row_unchanged : (old new : Judging) (number : ℕ) (row : Row Value) (outcome : Result Unit EditError) (error : EditError) → IsEdited old (edit.Row number row) outcome new
    → outcome ≡ Err error → new ≡ old
row_unchanged old new number row outcome error edited is =
    edited.1 ∙ ap (λ (cert : Stated). record old { cert = cert }) (row_refused old.cert new.cert number row error (rw is at edited.0))

pub returns-in-Word-clause-edited : goal.returns-in-Word-clause-edited
returns-in-Word-clause-edited g c = rw c.in-Word.is c.replace_word.ensures.edited

pub returns-in-Word-clause-unchanged : goal.returns-in-Word-clause-unchanged
returns-in-Word-clause-unchanged g c = λ error is. absurd (made_is_not_refused error is)

pub returns-in-Word-clause-steps : goal.returns-in-Word-clause-steps
returns-in-Word-clause-steps g c = rw c.in-Word.is c.replace_word.ensures.steps

pub returns-in-Word-clause-bounded : goal.returns-in-Word-clause-bounded
returns-in-Word-clause-bounded g c = rw c.in-Word.is c.replace_word.ensures.bounded

pub returns-in-Limit-clause-edited : goal.returns-in-Limit-clause-edited
returns-in-Limit-clause-edited g c = rw c.in-Limit.is c.replace_limit.ensures.edited

pub returns-in-Limit-clause-unchanged : goal.returns-in-Limit-clause-unchanged
returns-in-Limit-clause-unchanged g c = λ error is.
    limit_unchanged c.args.self.now c.replace_limit.new.self c.in-Limit.cell c.replace_limit.result error c.replace_limit.ensures.edited is

pub returns-in-Limit-clause-steps : goal.returns-in-Limit-clause-steps
returns-in-Limit-clause-steps g c = rw c.in-Limit.is c.replace_limit.ensures.steps

pub returns-in-Limit-clause-bounded : goal.returns-in-Limit-clause-bounded
returns-in-Limit-clause-bounded g c = rw c.in-Limit.is c.replace_limit.ensures.bounded

pub returns-in-Row-clause-edited : goal.returns-in-Row-clause-edited
returns-in-Row-clause-edited g c = rw c.in-Row.is c.replace_row.ensures.edited

pub returns-in-Row-clause-unchanged : goal.returns-in-Row-clause-unchanged
returns-in-Row-clause-unchanged g c = λ error is.
    row_unchanged c.args.self.now c.replace_row.new.self c.in-Row.row c.in-Row.new c.replace_row.result error c.replace_row.ensures.edited is

pub returns-in-Row-clause-steps : goal.returns-in-Row-clause-steps
returns-in-Row-clause-steps g c = rw c.in-Row.is c.replace_row.ensures.steps

pub returns-in-Row-clause-bounded : goal.returns-in-Row-clause-bounded
returns-in-Row-clause-bounded g c = rw c.in-Row.is c.replace_row.ensures.bounded
