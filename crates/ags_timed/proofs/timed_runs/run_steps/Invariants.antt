use Rattle.std.proofs.Common.{◌≡◌, length}
use Rattle.ags_ports.specs.State.{IsState}
use Rattle.ags_timed.specs.Timed.{RunsSteps}
use Rattle.ags_timed.proofs.timed_runs.run_steps.Given as goal

abbrev pub invariant-loop : goal.invariant-loop
invariant-loop g l = RunsSteps g.W.Watcher.looks l.machine l.counter l.fn.core l.fn.watcher l.core l.watcher
    × (length l.core.inputs ≡ length l.fn.core.inputs) × (length l.core.outputs ≡ length l.fn.core.outputs)
    × (IsState l.machine l.fn.core → IsState l.machine l.core)
