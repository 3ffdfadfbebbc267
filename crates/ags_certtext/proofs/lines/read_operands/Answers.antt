use Rattle.std.specs.Prelude.{◌≡◌, None, Some}
use Rattle.ags_certtext.specs.declared.statements.Entry.{Entry}
use Rattle.ags_certtext.specs.declared.statements.Statement.{Statement}
use Rattle.ags_certtext.specs.declared.statements.Statement.TheVariants.{Entry as EntryOf, Row}
use Rattle.ags_certtext.proofs.StatementLemmas.{made_only}
use Rattle.ags_certtext.proofs.lines.read_operands.Goals as goal

none_is : {statement : Statement} → None ≡ Some statement → ⊥
none_is same = absurd (cc)

pub returns-in_err-read_entry-in-Entry-clause-only : goal.returns-in_err-read_entry-in-Entry-clause-only
returns-in_err-read_entry-in-Entry-clause-only c = λ statement is.
    absurd (none_is (made_only (λ (entry : Entry). EntryOf c.in-Entry.table entry) c.in_err-read_entry-in-Entry.ensures.only (rw c.in-Entry.is at is)))

pub returns-in_ok-read_entry-in-Entry-clause-only : goal.returns-in_ok-read_entry-in-Entry-clause-only
returns-in_ok-read_entry-in-Entry-clause-only c = λ statement is.
    made_only (λ (entry : Entry). EntryOf c.in-Entry.table entry) c.in_ok-read_entry-in-Entry.ensures.only (rw c.in-Entry.is at is)

pub returns-in_err-read_row-in-Row-clause-only : goal.returns-in_err-read_row-in-Row-clause-only
returns-in_err-read_row-in-Row-clause-only c = λ statement is. absurd (none_is (made_only Row c.in_err-read_row-in-Row.ensures.only (rw c.in-Row.is at is)))

pub returns-in_ok-read_row-in-Row-clause-only : goal.returns-in_ok-read_row-in-Row-clause-only
returns-in_ok-read_row-in-Row-clause-only c = λ statement is. made_only Row c.in_ok-read_row-in-Row.ensures.only (rw c.in-Row.is at is)
