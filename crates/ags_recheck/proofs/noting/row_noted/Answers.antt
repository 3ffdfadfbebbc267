use Rattle.std.proofs.Common.{ℕ, List, ap, subst, ◌∙◌, rules}
use Rattle.std.specs.Prelude.{Some, None}
use Rattle.ags_domain.specs.Value.{value_meaning}
use Rattle.ags_domain.specs.declared.values.Value.{Value}
use Rattle.ags_row.specs.Limit.{Limiting}
use Rattle.ags_safe.specs.Case.{IsCode}
use Rattle.ags_safe.proofs.CodeLemmas.{code_one}
use Rattle.ags_verdict.specs.RowCase.{cases_in}
use Rattle.ags_recheck.proofs.RowLemmas.{row_kept, row_kept_none, steps_of_code}
use Rattle.ags_recheck.proofs.noting.row_noted.Goals as goal

pub returns-in-Some-clause-kept : goal.returns-in-Some-clause-kept
returns-in-Some-clause-kept g c =
    let is_code : IsCode value_meaning c.args.image.now c.args.cert.now.limits c.args.row.now (Some c.in-Some.set) =
    subst (λ (l : Limiting Value). IsCode value_meaning c.args.image.now l c.args.row.now (Some c.in-Some.set)) c.limits.ensures.limits c.in-Some.ensures in
    row_kept c.args.machine.now c.args.image.now c.args.cert.now c.args.row.now (code_one value_meaning) c.in-Some.set is_code
    c.as_slice.result.now (c.as_slice.ensures ∙ c.cases_of.ensures ∙ ap (λ (words : List ℕ). cases_in c.args.row.now words) c.words.ensures.same)
    c.cases_noted.result c.cases_noted.new.locations c.cases_noted.ensures.judged c.cases_noted.ensures.noted c.cases_noted.ensures.counted

pub returns-in-Some-clause-steps : goal.returns-in-Some-clause-steps
returns-in-Some-clause-steps g c =
    let is_code : IsCode value_meaning c.args.image.now c.args.cert.now.limits c.args.row.now (Some c.in-Some.set) =
    subst (λ (l : Limiting Value). IsCode value_meaning c.args.image.now l c.args.row.now (Some c.in-Some.set)) c.limits.ensures.limits c.in-Some.ensures in
    steps_of_code c.args.machine.now c.args.image.now c.args.cert.now c.args.row.now (code_one value_meaning) c.in-Some.set is_code
    c.as_slice.result.now (c.as_slice.ensures ∙ c.cases_of.ensures ∙ ap (λ (words : List ℕ). cases_in c.args.row.now words) c.words.ensures.same)
    c.args.steps.now c.cases_noted.new.steps c.cases_noted.ensures.steps

pub returns-in-None-clause-kept : goal.returns-in-None-clause-kept
returns-in-None-clause-kept g c =
    let is_code : IsCode value_meaning c.args.image.now c.args.cert.now.limits c.args.row.now None =
    subst (λ (l : Limiting Value). IsCode value_meaning c.args.image.now l c.args.row.now None) c.limits.ensures.limits c.in-None.ensures in
    row_kept_none c.args.machine.now c.args.image.now c.args.cert.now c.args.row.now (code_one value_meaning) is_code
    c.clear.new.self c.clear.ensures

pub cases_noted-requires-clause-empty : goal.cases_noted-requires-clause-empty
cases_noted-requires-clause-empty g c = search rules
