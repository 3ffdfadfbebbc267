use Rattle.std.proofs.Common.{◌≡◌, length}
use Rattle.ags_tests.proofs.machine.core_tests.events_are_told.Given as goal

-- the core keeps as many registers as the machine has
abbrev pub invariant-loop-step : goal.invariant-loop-step
invariant-loop-step g l = (length l.core.inputs ≡ length l.machine.ports.inputs) × (length l.core.outputs ≡ length l.machine.ports.outputs)
