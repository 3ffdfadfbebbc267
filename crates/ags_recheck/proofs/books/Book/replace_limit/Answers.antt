use Rattle.std.proofs.Common.{◌≡◌, ℕ, ◌+◌, ◌≤◌, sym, ap, ◌∙◌, length, refl, arith}
use Rattle.std.proofs.lemmas.Result.{err_from_is_err_and}
use Rattle.ags_certtype.specs.Cert.{Stated}
use Rattle.ags_recheck.proofs.BookLemmas.{book_made, limit_refused}
use Rattle.ags_recheck.proofs.books.Book.replace_limit.Goals as goal

no_fewer : (steps most : ℕ) → steps ≤ steps + most
no_fewer steps most = omega arith

pub invariant_of-self-2 : goal.invariant_of-self-2
invariant_of-self-2 g c =
    let len = sym (ap length c.as_mut_slice.ensures.value) ∙ c.as_mut_slice.ensures.len in
    let rows : length c.replace_limit.new.self.rows ≡ length c.self.inside.cert.rows = ap (λ (s : Stated). length s.rows) c.in_ok-replace_limit.ensures.1 in
    book_made c.self.inside.machine c.self.inside.image c.replace_limit.new.self c.judge_all.new.items _ c.self.inside.items.len c.judge_all.ensures.whole
    (c.judge_all.ensures.whole ∙ rows ∙ sym c.self.invariant.whole ∙ len) c.judge_all.ensures.kept

pub returns-clause-bounded : goal.returns-clause-bounded
returns-clause-bounded g c =
    c.rows_have_one_number_of_cases.ensures.some c.self.inside.image c.replace_limit.new.self.limits c.replace_limit.new.self.rows c.get-word.ensures.image

pub invariant_of-self : goal.invariant_of-self
invariant_of-self g c =
    rw (limit_refused c.self.inside.cert c.replace_limit.new.self c.args.cell _ c.in_err-replace_limit.ensures) c.self.invariant

pub returns-clause-edited : goal.returns-clause-edited
returns-clause-edited g c = rw (← c.self.view_is) (c.in_ok-replace_limit.ensures, refl)

pub returns-clause-steps : goal.returns-clause-steps
returns-clause-steps g c = c.judge_all.ensures.steps

pub returns-in_err-replace_limit-clause-edited : goal.returns-in_err-replace_limit-clause-edited
returns-in_err-replace_limit-clause-edited g c =
    let p = err_from_is_err_and c.from_residual.result c.from_residual.ensures.1 in
    rw (← c.self.view_is, p.1, p.2) (c.in_err-replace_limit.ensures, refl)

pub returns-in_err-replace_limit-clause-steps : goal.returns-in_err-replace_limit-clause-steps
returns-in_err-replace_limit-clause-steps g c = λ most is. no_fewer c.args.steps.now most

pub returns-in_err-replace_limit-clause-bounded : goal.returns-in_err-replace_limit-clause-bounded
returns-in_err-replace_limit-clause-bounded g c =
    let p = err_from_is_err_and c.from_residual.result c.from_residual.ensures.1 in
    rw p.1 (0, refl)
