-- The bench of the definition that the code's bench stands for.
use Rattle.std.specs.Prelude.{◌≡◌, ◌≤◌, List, length}
use Rattle.ags_device.specs.Record.{DeviceRecord}
use Rattle.ags_ports.specs.declared.machines.Machine.{Machine}
use Rattle.ags_timed.specs.Limit.{cycle_micros}
use Rattle.ags_drive.specs.Bench as play
use Rattle.ags_drive.specs.declared.benches.Bench.{Bench}

-- with these devices at its registers
abbrev pub bench_of : Bench → List DeviceRecord → play.Bench
bench_of bench devices = record { core = bench.core; devices = devices; carry = bench.carry }

-- the bench is one of the machine: it has its registers
pub record IsBenchOf (machine : Machine) (bench : Bench) : Type 0 where
  pub inputs : length bench.core.inputs ≡ length machine.ports.inputs
  pub outputs : length bench.core.outputs ≡ length machine.ports.outputs
  pub carry : bench.carry ≤ cycle_micros
