use Rattle.std.proofs.Common.{map}
use Rattle.ags_drive.specs.Act.{FeedsInCycle, at_each}
use Rattle.ags_certtype.specs.Cert.{certificate_of}
use Rattle.ags_drive.specs.Making.{SilentMade}
use Rattle.ags_drive.specs.Standing.{IsBenchOf}
use Rattle.ags_drive.proofs.cycling.feed_all.Given as goal

abbrev pub invariant-loop-position : goal.invariant-loop-position
invariant-loop-position g l = record {
  fitted : IsBenchOf l.machine l.bench;
  made : SilentMade l.machine (certificate_of l.cert) (at_each FeedsInCycle l.position) l.fn.bench l.bench
      (map (λ b. (goal.Device-dyn g (b.vtable, b.value)).record_of b.value) l.fn.devices.items) (map (λ b. (goal.Device-dyn g (b.vtable, b.value)).record_of b.value) l.devices.items);
}
