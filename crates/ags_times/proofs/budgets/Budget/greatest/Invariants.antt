use Rattle.std.proofs.Common.{ℕ, ◌<◌, ◌≤◌, get_or}
use Rattle.std.specs.Prelude.{Contains}
use Rattle.ags_times.specs.Budget.{bounds_where}
use Rattle.ags_times.proofs.budgets.Budget.greatest.Given as goal

-- the greatest so far
abbrev pub invariant-loop-bound : goal.invariant-loop-bound
invariant-loop-bound l = Contains (bounds_where l.bound-items) l.greatest × ((i d : ℕ) → i < l.bound-index → get_or (bounds_where l.bound-items) i d ≤ l.greatest)
