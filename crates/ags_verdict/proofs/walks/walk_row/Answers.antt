use Rattle.std.proofs.Common.{ℕ, ◌≤◌, ◌+◌, List, sym, ap, subst, ◌∙◌, length}
use Rattle.std.specs.Prelude.{Some, None}
use Rattle.ags_verdict.specs.RowCase.{RowCase, cases_in}
use Rattle.ags_verdict.proofs.CountingLemmas.{cases_of_code}
use Rattle.ags_verdict.proofs.walks.walk_row.Goals as goal

pub returns-in-Some-clause-steps : goal.returns-in-Some-clause-steps
returns-in-Some-clause-steps g c = λ cases has. subst (λ (n : ℕ). c.walk_cases.new.steps ≤ c.args.steps.now + n)
    (ap (λ (xs : List RowCase). length xs) (c.as_slice.ensures ∙ c.cases_of.ensures ∙ ap (λ (words : List ℕ). cases_in c.args.row.now words) c.words.ensures.same)
    ∙ sym (cases_of_code g.D.Domain.meaning c.args.image.now c.args.limits.now c.args.row.now (Some c.in-Some.set) cases c.in-Some.ensures has))
    c.walk_cases.ensures.steps

pub cases_of-requires : goal.cases_of-requires
cases_of-requires g c = c.words.ensures.few

pub returns-in-Some-clause-judged : goal.returns-in-Some-clause-judged
returns-in-Some-clause-judged g c =
    let same = c.as_slice.ensures ∙ c.cases_of.ensures ∙ ap (λ (words : List ℕ). cases_in c.args.row.now words) c.words.ensures.same in
    (Some c.in-Some.set, c.in-Some.ensures, rw same at c.walk_cases.ensures.judged)

pub returns-in-None-clause-judged : goal.returns-in-None-clause-judged
returns-in-None-clause-judged g c = (None, c.in-None.ensures, c.code_unknown.ensures.same)
