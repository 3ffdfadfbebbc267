use Rattle.std.proofs.Common.{sym, ◌∙◌}
use Rattle.ags_edits.proofs.LineLemmas.{also, fields_state, shared_states, by_keyword, by_none, none_some}
use Rattle.ags_edits.proofs.lines.read_edit_line.Goals as goal

pub returns-in-Some-clause-found : goal.returns-in-Some-clause-found
returns-in-Some-clause-found c =
    also c.read_operands.result
    (λ its are. fields_state c.args.line.now c.in-Some.keyword its (c.in-Some.ensures.found ∙ c.split_field.ensures.field) (rw (← c.split_field.ensures.behind) are))
    c.read_operands.ensures.found

pub returns-in-Some-clause-only : goal.returns-in-Some-clause-only
returns-in-Some-clause-only c = λ its is.
    c.read_operands.ensures.only its (rw c.split_field.ensures.behind
    (by_keyword c.args.line.now c.in-Some.keyword its (c.in-Some.ensures.found ∙ c.split_field.ensures.field) is))

pub returns-in-None-clause-found : goal.returns-in-None-clause-found
returns-in-None-clause-found c = also c.read_shared.result (λ its is. shared_states c.args.line.now its is) c.read_shared.ensures.found

pub returns-in-None-clause-only : goal.returns-in-None-clause-only
returns-in-None-clause-only c = λ its is.
    c.read_shared.ensures.only its
    (by_none c.args.line.now its (λ name named. none_some name (c.in-None.ensures.only name (named ∙ sym c.split_field.ensures.field))) is)
