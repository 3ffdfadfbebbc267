use Rattle.std.proofs.Common.{ℕ, ◌≤◌, List, subst}
use Rattle.ags_times.specs.Budget.{bound_of}
use Rattle.ags_times.proofs.BoundLemmas.{never_above}
use Rattle.ags_times.proofs.budgets.Budget.bounds_are_times.Goals as goal

pub returns : goal.returns
returns c = λ number. subst (λ (bounds : List ℕ). bound_of bounds number ≤ 20000) c.self.view_is (never_above c.self.inside.stated.items c.self.invariant number)
