use Rattle.std.proofs.Common.{◌≡◌, map}
use Rattle.ags_drive.specs.Act.{ShowsDevice, at_each}
use Rattle.ags_domain.specs.declared.values.Value.{Value}
use Rattle.ags_ports.specs.declared.machines.Machine.{Machine}
use Rattle.ags_safe.specs.Certificate.{Certificate}
use Rattle.ags_drive.specs.Making.{Made}
use Rattle.ags_drive.proofs.leaving.show_all_left.Given as goal

abbrev pub invariant-loop-position : goal.invariant-loop-position
invariant-loop-position g l = record {
  made : (machine : Machine) (cert : Certificate Value) → Made machine cert (at_each ShowsDevice l.position) (g.K.Sink.told l.fn.out) (g.K.Sink.told l.out) l.bench l.bench
      (map (λ b. (goal.Device-dyn g (b.vtable, b.value)).record_of b.value) l.devices.items) (map (λ b. (goal.Device-dyn g (b.vtable, b.value)).record_of b.value) l.devices.items);
  faults : g.K.Sink.faults l.out ≡ g.K.Sink.faults l.fn.out;
}
