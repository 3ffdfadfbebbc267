use Rattle.std.proofs.Common.{◌≡◌, ◌+◌, refl, sym, subst}
use Rattle.std.specs.Prelude.{Option, Some, None}
use Rattle.ags_domain.specs.Value.{value_meaning}
use Rattle.ags_domain.specs.declared.values.Value.{Value}
use Rattle.ags_row.specs.declared.posts.Post.{Post}
use Rattle.ags_certtype.specs.Cert.{certificate_of}
use Rattle.ags_budget.specs.Timing.{IsLate}
use Rattle.ags_budget.specs.declared.timing.Need.{Need}
use Rattle.ags_budget.proofs.FoundLemmas.{least_is_late, fails}
use Rattle.ags_budget.proofs.timing.late.Goals as goal

pub returns-in-Some-least_bound-clause-late : goal.returns-in-Some-least_bound-clause-late
returns-in-Some-least_bound-clause-late c =
    let cert = certificate_of c.args.cert.now in
    let least = c.in-Some-least_bound.least in
    let is = c.in-Some-least_bound.ensures.least in
    let late = least_is_late cert c.args.row.now c.in-Some.post c.args.budget.now c.args.bound c.args.time least is
    (fails c.is_in_time.result c.is_in_time.ensures.1 c.if-is_in_time.false) in
    subst (λ (post : Option (Post Value)). IsLate value_meaning cert c.args.budget.now c.args.bound c.args.time c.args.row.now post (Some c.in-Some.post.next) (c.args.time + least))
    (sym c.in-Some.is) ((least, is, refl, late), refl)

pub returns-then-is_in_time : goal.returns-then-is_in_time
returns-then-is_in_time c = record {
  late = tt;
  in_time = λ covered none. rw c.in-Some.is (c.is_in_time.ensures.0 c.if-is_in_time.true);
}

-- a covered post has a least bound
pub returns-in-None-least_bound : goal.returns-in-None-least_bound
returns-in-None-least_bound c = record {
  late = tt;
  in_time = λ covered none. absurd (c.in-None-least_bound.ensures.none refl (rw c.in-Some.is at covered));
}

some_is_not_none : (need : Need) → Some need ≡ None → ⊥
some_is_not_none need is = cc

pub returns-in-Some-least_bound-clause-in_time : goal.returns-in-Some-least_bound-clause-in_time
returns-in-Some-least_bound-clause-in_time c = λ covered none. absurd (some_is_not_none _ none)

pub returns-in-None : goal.returns-in-None
returns-in-None c = record {
  late = tt;
  in_time = λ covered none. rw c.in-None.is tt;
}
