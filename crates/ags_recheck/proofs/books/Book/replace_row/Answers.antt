use Rattle.std.proofs.Common.{◌≡◌, ◌+◌, ◌-◌, ◌≤◌, ℕ, List, refl, sym, ap, subst, ◌∙◌, length, arith}
use Rattle.std.proofs.lemmas.List.{length-set}
use Rattle.std.proofs.lemmas.Result.{err_from_is_err_and}
use Rattle.ags_check.proofs.CodeLemmas.{some_code}
use Rattle.ags_certtype.specs.Cert.{Stated}
use Rattle.ags_check.specs.Judging.{Judging}
use Rattle.ags_recheck.specs.Bound.{IsMostOfRow}
use Rattle.ags_recheck.specs.Kept.{AreOthersKept, IsBeforeEdit}
use Rattle.ags_recheck.specs.declared.items.Item.{Item}
use Rattle.ags_recheck.proofs.BookLemmas.{book_made, others_kept_after, row_refused, steps_after}
use Rattle.ags_recheck.proofs.BoundLemmas.{some_most}
use Rattle.ags_recheck.proofs.books.Book.replace_row.Goals as goal

no_fewer : (steps most : ℕ) → steps ≤ steps + most
no_fewer steps most = omega arith

pub rejudge-requires-clause-others : goal.rejudge-requires-clause-others
rejudge-requires-clause-others g c =
    let now = c.as_mut_slice.ensures.value in
    subst (λ (xs : List Item). AreOthersKept c.self.inside.machine c.self.inside.image c.replace_row.new.self (c.args.number - 1) c.location_of-one.result
    c.location-other.result xs) (sym now)
    (others_kept_after c.self.inside.machine c.self.inside.image c.self.inside.cert c.self.inside.items.items c.self.invariant c.args.number c.args.row
    c.in_ok-replace_row.ensures.0 c.location_of-one.result c.location-other.result c.location_of-one.ensures.location c.location-other.ensures
    c.replace_row.new.self c.in_ok-replace_row.ensures.3)

pub invariant_of-self-2 : goal.invariant_of-self-2
invariant_of-self-2 g c =
    let len = sym (ap length c.as_mut_slice.ensures.value) ∙ c.as_mut_slice.ensures.len in
    let rows : length c.replace_row.new.self.rows ≡ length c.self.inside.cert.rows =
    ap (λ (s : Stated). length s.rows) c.in_ok-replace_row.ensures.3 ∙ length-set c.self.inside.cert.rows (c.args.number - 1) c.args.row in
    book_made c.self.inside.machine c.self.inside.image c.replace_row.new.self c.rejudge.new.items _ c.self.inside.items.len c.rejudge.ensures.whole
    (c.rejudge.ensures.whole ∙ rows ∙ sym c.self.invariant.whole ∙ len) c.rejudge.ensures.kept

pub returns-clause-steps : goal.returns-clause-steps
returns-clause-steps g c = λ most is.
    let now = c.as_mut_slice.ensures.value in
    steps_after c.self.inside.machine c.self.inside.image c.self.inside.cert c.self.inside.items.items c.self.invariant c.args.number c.args.row
    c.in_ok-replace_row.ensures.0 c.location_of-one.result c.location-other.result c.location_of-one.ensures.location c.location-other.ensures
    c.replace_row.new.self c.in_ok-replace_row.ensures.3 c.rejudge.new.steps c.args.steps.now
    (λ before new own others is_before has have. c.rejudge.ensures.steps before new own others
    (subst (λ (xs : List Item). IsBeforeEdit c.self.inside.machine c.self.inside.image c.replace_row.new.self (c.args.number - 1) c.location_of-one.result
    c.location-other.result before new xs) (sym now) is_before) has have) most
    (subst (λ (j : Judging). IsMostOfRow j (record { machine = c.self.inside.machine; image = c.self.inside.image; cert = c.replace_row.new.self }) c.args.number c.args.row most)
    (sym c.self.view_is) is)

pub returns-clause-bounded : goal.returns-clause-bounded
returns-clause-bounded g c =
    subst (λ (j : Judging). (most : ℕ)
    × IsMostOfRow j (record { machine = c.self.inside.machine; image = c.self.inside.image; cert = c.replace_row.new.self }) c.args.number c.args.row most)
    c.self.view_is
    (some_most c.self.inside.machine c.self.inside.image c.self.inside.cert c.self.inside.items.items c.self.invariant
    (λ row. some_code c.self.inside.image c.self.inside.cert.limits row c.get-word.ensures.image)
    c.args.number c.args.row c.replace_row.new.self c.in_ok-replace_row.ensures.3)

pub invariant_of-self : goal.invariant_of-self
invariant_of-self g c =
    rw (row_refused c.self.inside.cert c.replace_row.new.self c.args.number c.args.row _ c.in_err-replace_row.ensures) c.self.invariant

pub rejudge-requires-clause-whole : goal.rejudge-requires-clause-whole
rejudge-requires-clause-whole g c =
    ap length c.as_mut_slice.ensures.value ∙ c.self.invariant.whole
    ∙ sym (ap (λ (s : Stated). length s.rows) c.in_ok-replace_row.ensures.3 ∙ length-set c.self.inside.cert.rows (c.args.number - 1) c.args.row)

pub returns-in_err-replace_row-clause-edited : goal.returns-in_err-replace_row-clause-edited
returns-in_err-replace_row-clause-edited g c =
    let p = err_from_is_err_and c.from_residual.result c.from_residual.ensures.1 in
    rw (← c.self.view_is, p.1, p.2) (c.in_err-replace_row.ensures, refl)

pub returns-in_err-replace_row-clause-steps : goal.returns-in_err-replace_row-clause-steps
returns-in_err-replace_row-clause-steps g c = λ most is. no_fewer c.args.steps.now most

pub returns-in_err-replace_row-clause-bounded : goal.returns-in_err-replace_row-clause-bounded
returns-in_err-replace_row-clause-bounded g c =
    let p = err_from_is_err_and c.from_residual.result c.from_residual.ensures.1 in
    rw p.1 (0, refl)

pub returns-clause-edited : goal.returns-clause-edited
returns-clause-edited g c = rw (← c.self.view_is) (c.in_ok-replace_row.ensures, refl)
