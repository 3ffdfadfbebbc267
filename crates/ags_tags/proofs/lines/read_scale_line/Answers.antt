use Rattle.std.proofs.Common.{◌∙◌}
use Rattle.ags_tags.proofs.LineLemmas.{also, fields_state, by_keyword, by_no_keyword}
use Rattle.ags_tags.proofs.lines.read_scale_line.Goals as goal

pub returns-clause-found : goal.returns-clause-found
returns-clause-found c =
    also c.read_operands.result
    (λ its are. fields_state c.args.line.now c.in_ok-keyword.keyword its (c.in_ok-keyword.ensures.found ∙ c.split_field.ensures.field) (rw (← c.split_field.ensures.behind) are))
    c.read_operands.ensures.found

pub returns-clause-only : goal.returns-clause-only
returns-clause-only c = λ its is.
    c.read_operands.ensures.only its (rw c.split_field.ensures.behind
    (by_keyword c.args.line.now c.in_ok-keyword.keyword (c.in_ok-keyword.ensures.found ∙ c.split_field.ensures.field) its is))

pub returns-in_err-keyword-clause-only : goal.returns-in_err-keyword-clause-only
returns-in_err-keyword-clause-only c = λ its is. absurd (by_no_keyword c.args.line.now _ c.split_field.ensures.field c.in_err-keyword.ensures.only its is)
