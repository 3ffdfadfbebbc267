use Rattle.std.proofs.Common.{sym, ◌∙◌}
use Rattle.ags_script.proofs.FieldLemmas.{only_none, only_one, only_more, empty_text, some_text}
use Rattle.ags_script.proofs.operands.only_field.Goals as goal

pub returns-then-is_empty-clause-none : goal.returns-then-is_empty-clause-none
returns-then-is_empty-clause-none c =
    only_none c.args.text.now (sym c.split_field.ensures.field ∙ empty_text c.split_field.result.0.now (sym c.is_empty.ensures ∙ c.if-is_empty.true))

pub returns-then-are_blanks-clause-found : goal.returns-then-are_blanks-clause-found
returns-then-are_blanks-clause-found c =
    let some = some_text c.split_field.result.0.now (sym c.is_empty.ensures ∙ c.if-is_empty.false) in
    rw c.split_field.ensures.field (only_one c.args.text.now (rw c.split_field.ensures.field at some) (rw (← c.split_field.ensures.behind) (sym c.are_blanks.ensures ∙ c.if-are_blanks.true)))

pub returns-else-are_blanks-clause-none : goal.returns-else-are_blanks-clause-none
returns-else-are_blanks-clause-none c =
    let some = some_text c.split_field.result.0.now (sym c.is_empty.ensures ∙ c.if-is_empty.false) in
    only_more c.args.text.now (rw c.split_field.ensures.field at some) (rw (← c.split_field.ensures.behind) (sym c.are_blanks.ensures ∙ c.if-are_blanks.false))
