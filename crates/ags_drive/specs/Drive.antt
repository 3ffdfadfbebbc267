-- What `drive` answers: how far a script was run, the devices as they then stand, and what it met.
use Rattle.std.specs.Prelude.{◌≡◌, ℕ, Bool, true, false, List, Option, Result, Ok, Err}
use Rattle.ags_drive.specs.BenchRun.{OutsideStart, RefusedAct}
use Rattle.ags_drive.specs.Doing.{NoDevice, NoFeed, OutsidePut}
use Rattle.ags_drive.specs.Driven.{AreBehind, DrivenTo, DrivenWhole, DrivenInPart}
use Rattle.ags_benchscript.specs.declared.commands.BenchCommand.{BenchCommand}
use Rattle.ags_device.specs.Record.{DeviceRecord}
use Rattle.ags_domain.specs.declared.values.Value.{Value}
use Rattle.ags_ports.specs.declared.machines.Machine.{Machine}
use Rattle.ags_run.specs.Play.{outside_of}
use Rattle.ags_safe.specs.Certificate.{Certificate}
use Rattle.ags_drive.specs.declared.drive_error.DriveError.{DriveError}
use Rattle.ags_drive.specs.declared.drive_error.DriveError.TheVariants as error
use Rattle.ags_drive.specs.declared.driving.Driven.{Driven}

-- The output failed: the run was stopped at a point of it, and the devices are those of the point. A start that isn't declared, a word
-- that isn't, a number that no device has, or a device that feeds no register was met: the devices are those where the run stops.
-- Memory was wanting: the run was stopped at a point of it, and each device may have heard less than it has heard there, but no less
-- than at first.
abbrev pub IsUndriven : Machine → List (Option ℕ) → Certificate Value → (devices : List DeviceRecord) → List (ℕ × BenchCommand) → (old new : Option (List ℕ)) → (now : List DeviceRecord) → DriveError → Type 0
IsUndriven machine image cert devices lines old new now error.WriteFault = DrivenInPart machine image cert devices lines old new (λ first point. now ≡ point)
IsUndriven machine image cert devices lines old new now (error.StartOutside outside) = DrivenTo machine image cert devices lines old new now (OutsideStart (outside_of outside))
IsUndriven machine image cert devices lines old new now (error.InputRange address word) =
    DrivenTo machine image cert devices lines old new now (RefusedAct (OutsidePut (record { address = address; word = word })))
IsUndriven machine image cert devices lines old new now (error.NoDevice line device) = DrivenTo machine image cert devices lines old new now (RefusedAct (NoDevice line device))
IsUndriven machine image cert devices lines old new now (error.NoFeed line device) = DrivenTo machine image cert devices lines old new now (RefusedAct (NoFeed line device))
IsUndriven machine image cert devices lines old new now error.NoMemory = DrivenInPart machine image cert devices lines old new (λ first point. AreBehind first now point)

-- the script was run to its end, with its steps and puts counted; or it wasn't, for such a reason
abbrev pub Drives : Machine → List (Option ℕ) → Certificate Value → (devices : List DeviceRecord) → List (ℕ × BenchCommand) → (old new : Option (List ℕ)) → (now : List DeviceRecord) → Result Driven DriveError → Type 0
Drives machine image cert devices lines old new now (Ok driven) = DrivenWhole machine image cert devices lines old new now driven.steps driven.puts
Drives machine image cert devices lines old new now (Err met) = IsUndriven machine image cert devices lines old new now met

-- whether a call met a fault of the sink, which its count of faults counts
abbrev pub is_drive_fault : {T : Type 0} → Result T DriveError → Bool
is_drive_fault (Err error.WriteFault) = true
is_drive_fault _ = false
