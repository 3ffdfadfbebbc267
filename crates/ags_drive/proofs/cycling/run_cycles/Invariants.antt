use Rattle.std.proofs.Common.{map}
use Rattle.ags_drive.specs.Act.{cycles}
use Rattle.ags_certtype.specs.Cert.{certificate_of}
use Rattle.ags_drive.specs.Making.{SilentMade}
use Rattle.ags_drive.specs.Standing.{IsBenchOf}
use Rattle.ags_drive.proofs.cycling.run_cycles.Given as goal

abbrev pub invariant-loop : goal.invariant-loop
invariant-loop g l = record {
  fitted : IsBenchOf l.machine l.bench;
  made : SilentMade l.machine (certificate_of l.cert) (cycles l.positions l.counter) l.fn.bench l.bench
      (map (λ b. (goal.Device-dyn g (b.vtable, b.value)).record_of b.value) l.fn.devices.items) (map (λ b. (goal.Device-dyn g (b.vtable, b.value)).record_of b.value) l.devices.items);
}
