use Rattle.std.proofs.Common.{◌≡◌, ℕ, ◌<◌, sym}
use Rattle.std.specs.Prelude.{⊤}
use Rattle.ags_certtype.specs.Cert.{certificate_of}
use Rattle.ags_times.specs.Budget.{bound_of}
use Rattle.ags_budget.proofs.FoundLemmas.{by_number, serving}
use Rattle.ags_budget.proofs.covering.least_bound.Goals as goal

pub returns-in_default-clause-none : goal.returns-in_default-clause-none
returns-in_default-clause-none c = λ none covered.
    c.in_default.ensures ((c.cover_asks_nothing_of_a_number.ensures (certificate_of c.args.cert.now) c.args.base.now c.args.post.now).1 covered)

pub loop-other-init : goal.loop-other-init
loop-other-init c = (by_number (certificate_of c.args.cert.now) c.args.base.now c.args.post.now (λ (n : ℕ). ⊤) c.in-Some.first c.in-Some.ensures).0

pub loop-other-preserved : goal.loop-other-preserved
loop-other-preserved c =
    (by_number (certificate_of c.args.cert.now) c.args.base.now c.args.post.now (λ (n : ℕ). bound_of c.args.budget.now n < c.bound-least.result) c.in-Some-covering_row.other
    c.in-Some-covering_row.ensures).0

pub returns-in-None-clause-least : goal.returns-in-None-clause-least
returns-in-None-clause-least c = record {
  some = serving (certificate_of c.args.cert.now) c.args.base.now c.args.post.now (λ (n : ℕ). bound_of c.args.budget.now n ≡ c.bound-least.result) c.loop-other.number
      c.loop-other.invariant (sym c.bound-least.ensures.bound);
  none = c.in-None.ensures;
}
