-- The bench that a script is run on, and what it is before the first act.
use Rattle.std.specs.Prelude.{ℕ, zero, suc, List, slice_get, Option, Some, None}
use Rattle.ags_core.specs.Core.{start_state}
use Rattle.ags_device.specs.Devices.{changed_at, without}
use Rattle.ags_device.specs.Record.{DeviceRecord, given}
use Rattle.ags_domain.specs.declared.values.Value.{Value}
use Rattle.ags_ports.specs.declared.machines.Machine.{Machine}
use Rattle.ags_ports.specs.State.{State}
use Rattle.ags_safe.specs.Certificate.{Certificate}

-- The machine's state, the records of the devices that are present, in order, and the carry: the microseconds by which the last
-- cycle's last order passed its end.
pub record Bench : Type 0 where
  pub core : State
  pub devices : List DeviceRecord
  pub carry : ℕ

-- The bench before the first act: the state begins at the certificate's start, with the image in the cells and 0 in all others and in
-- the registers; the devices are those that were handed in; and no cycle has passed its end.
abbrev pub start_bench : Machine → List (Option ℕ) → Certificate Value → List DeviceRecord → Bench
start_bench machine image cert devices = record { core = start_state machine image cert.start; devices = devices; carry = 0 }

-- ---- devices by their numbers

-- the position of a number: positions are counted from 0, and numbers from 1
abbrev pub position_of_number : ℕ → Option ℕ
position_of_number zero = None
position_of_number (suc position) = Some position

-- the device at a position, where there is one
abbrev pub device_at : List DeviceRecord → Option ℕ → Option DeviceRecord
device_at devices None = None
device_at devices (Some position) = slice_get devices position

-- the devices once the one at a position gave its next word
abbrev pub with_given : List DeviceRecord → Option ℕ → List DeviceRecord
with_given devices None = devices
with_given devices (Some position) = changed_at given devices position

-- the devices once the one at a position left; the list closes up
abbrev pub with_detached : List DeviceRecord → Option ℕ → List DeviceRecord
with_detached devices None = devices
with_detached devices (Some position) = without devices position
