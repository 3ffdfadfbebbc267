-- Why a run isn't begun.
use Rattle.std.specs.Prelude.{ℕ, List, Option, Some}
use Rattle.ags_core.specs.Core.{start_state}
use Rattle.ags_domain.specs.declared.values.Value.{Value}
use Rattle.ags_play.specs.Guard.{IsFirstOutside}
use Rattle.ags_ports.specs.declared.machines.Machine.{Machine}
use Rattle.ags_run.specs.Play.{outside_of}
use Rattle.ags_safe.specs.Certificate.{Certificate}
use Rattle.ags_drive.specs.declared.drive_error.DriveError.{DriveError}
use Rattle.ags_drive.specs.declared.drive_error.DriveError.TheVariants as error

-- the start has that outside first, or the memory didn't suffice; nothing else keeps a run from being begun
abbrev pub IsUnbegun : Machine → List (Option ℕ) → Certificate Value → DriveError → Type 0
IsUnbegun machine image cert (error.StartOutside outside) = IsFirstOutside machine image cert (start_state machine image cert.start) (Some (outside_of outside))
IsUnbegun machine image cert error.NoMemory = Unit {0}
IsUnbegun machine image cert _ = ⊥
