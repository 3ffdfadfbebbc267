use Rattle.std.proofs.Common.{map, replicate}
use Rattle.ags_drive.specs.Act.{MakesStep}
use Rattle.ags_domain.specs.declared.values.Value.{Value}
use Rattle.ags_safe.specs.Certificate.{Certificate}
use Rattle.ags_drive.specs.Making.{SilentMade}
use Rattle.ags_drive.specs.Standing.{IsBenchOf}
use Rattle.ags_drive.proofs.stepping.make_steps.Given as goal

abbrev pub invariant-loop : goal.invariant-loop
invariant-loop g l = record {
  fitted : IsBenchOf l.machine l.bench;
  made : (cert : Certificate Value) → SilentMade l.machine cert (replicate l.counter MakesStep) l.fn.bench l.bench
      (map (λ b. (goal.Device-dyn g (b.vtable, b.value)).record_of b.value) l.fn.devices.items) (map (λ b. (goal.Device-dyn g (b.vtable, b.value)).record_of b.value) l.devices.items);
}
