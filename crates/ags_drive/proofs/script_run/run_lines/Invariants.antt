use Rattle.std.proofs.Common.{◌≡◌, map, take}
use Rattle.ags_drive.specs.Act.{acts_of}
use Rattle.ags_certtype.specs.Cert.{certificate_of}
use Rattle.ags_drive.specs.Making.{Made}
use Rattle.ags_drive.specs.Standing.{IsBenchOf}
use Rattle.ags_drive.proofs.script_run.run_lines.Given as goal

abbrev pub invariant-loop-position : goal.invariant-loop-position
invariant-loop-position g l = record {
  fitted : IsBenchOf l.machine l.bench;
  made : Made l.machine (certificate_of l.cert) (acts_of l.positions (take l.position l.script)) (g.K.Sink.told l.fn.out) (g.K.Sink.told l.out) l.fn.bench
      l.bench
      (map (λ b. (goal.Device-dyn g (b.vtable, b.value)).record_of b.value) l.fn.devices.items) (map (λ b. (goal.Device-dyn g (b.vtable, b.value)).record_of b.value) l.devices.items);
  faults : g.K.Sink.faults l.out ≡ g.K.Sink.faults l.fn.out;
}
