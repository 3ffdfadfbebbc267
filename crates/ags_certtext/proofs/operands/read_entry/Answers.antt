use Rattle.ags_certtext.proofs.FrontLemmas.{no_word, not_blank}
use Rattle.ags_certtext.proofs.StatementLemmas.{entry_same}
use Rattle.ags_certtext.proofs.operands.read_entry.Goals as goal

pub returns-in_default-read_value-clause-only : goal.returns-in_default-read_value-clause-only
returns-in_default-read_value-clause-only c = λ entry is.
    absurd (c.in_default-read_value.ensures.only entry.value is.rest (rw c.split_field.ensures.behind is.value_is) (λ listed. no_word is.rest is.ends))

pub returns-then-are_blanks-clause-only : goal.returns-then-are_blanks-clause-only
returns-then-are_blanks-clause-only c = λ entry is.
    let value = c.in-Some-read_value.ensures.only entry.value is.rest (rw c.split_field.ensures.behind is.value_is) (λ listed. no_word is.rest is.ends) in
    entry_same entry c.in-Some.address c.in-Some-read_value.value (c.in-Some.ensures.only entry.address (rw c.split_field.ensures.field is.address_is)) value.0

pub returns-else-are_blanks-clause-only : goal.returns-else-are_blanks-clause-only
returns-else-are_blanks-clause-only c = λ entry is.
    let value = c.in-Some-read_value.ensures.only entry.value is.rest (rw c.split_field.ensures.behind is.value_is) (λ listed. no_word is.rest is.ends) in
    absurd (not_blank c.in-Some-read_value.rest.now is.rest c.are_blanks.result c.are_blanks.ensures c.if-are_blanks.false value.1 is.ends)
