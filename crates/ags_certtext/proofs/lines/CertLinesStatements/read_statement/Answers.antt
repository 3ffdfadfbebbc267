use Rattle.std.proofs.Common.{◌≡◌, sym, ◌∙◌}
use Rattle.ags_certtext.proofs.FrontLemmas.{some_also}
use Rattle.ags_certtext.proofs.StatementLemmas.{operands_state, state_operands}
use Rattle.ags_certtext.proofs.lines.CertLinesStatements.read_statement.Goals as goal

pub returns-clause-found : goal.returns-clause-found
returns-clause-found c =
    some_also c.read_operands.result
    (λ statement is. operands_state c.in_ok-keyword.keyword c.args.line.now statement (c.in_ok-keyword.ensures.found ∙ c.split_field.ensures.field) (rw (← c.split_field.ensures.behind) is))
    c.read_operands.ensures.found

pub returns-clause-only : goal.returns-clause-only
returns-clause-only c = λ statement is.
    let has = state_operands c.args.line.now statement is in
    let one = c.in_ok-keyword.ensures.only has.its (has.named ∙ sym c.split_field.ensures.field) in
    let same : c.in_ok-keyword.keyword ≡ has.its = cc in
    c.read_operands.ensures.only statement (rw (same, c.split_field.ensures.behind) has.are)

pub returns-in_err-keyword-clause-only : goal.returns-in_err-keyword-clause-only
returns-in_err-keyword-clause-only c = λ statement is.
    let has = state_operands c.args.line.now statement is in
    let none = c.in_err-keyword.ensures.only has.its (has.named ∙ sym c.split_field.ensures.field) in
    absurd (cc)
