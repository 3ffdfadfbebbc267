use Rattle.std.proofs.Common.{◌≡◌, ◌≤◌, ◌+◌, ◌-◌, length}
use Rattle.ags_ports.specs.State.{IsState}
use Rattle.ags_timed.proofs.TimedLemmas.{IsSeenSoFar, weight}
use Rattle.ags_timed.proofs.timed_runs.run_for.Given as goal

abbrev pub decreases-steps : goal.decreases-steps
decreases-steps g l = (l.micros - l.spent) + weight l.core.phase

abbrev pub invariant-steps : goal.invariant-steps
invariant-steps g l = IsSeenSoFar g.W.Watcher.looks l.machine l.micros l.fn.core l.fn.watcher l.core l.watcher l.spent
    × (l.spent ≤ l.micros + 999) × (length l.core.inputs ≡ length l.fn.core.inputs) × (length l.core.outputs ≡ length l.fn.core.outputs)
    × (IsState l.machine l.fn.core → IsState l.machine l.core)
