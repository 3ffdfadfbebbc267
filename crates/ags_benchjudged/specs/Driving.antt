-- What is written after the files are loaded, and what the devices are then.
use Rattle.std.specs.Prelude.{◌≡◌, ◌⊎◌, ℕ, List, ◌++◌, Option, Result, Ok, Err}
use Rattle.ags_drive.specs.BenchRun.{Met, Nothing, OutsideStart, RefusedAct, IsBenchRun}
use Rattle.ags_drive.specs.Doing.{NoDevice, NoFeed, OutsidePut}
use Rattle.ags_drive.specs.Driven.{AreBehind, DrivenInPart}
use Rattle.ags_benchscript.specs.declared.commands.BenchCommand.{BenchCommand}
use Rattle.ags_cert.specs.Cert.{Stated, certificate_of}
use Rattle.ags_device.specs.Record.{DeviceRecord}
use Rattle.ags_domain.specs.declared.values.Value.{Value}
use Rattle.ags_drive.specs.declared.drive_error.DriveError.{DriveError}
use Rattle.ags_drive.specs.declared.drive_error.DriveError.TheVariants as error
use Rattle.ags_outside.specs.declared.sending.SendError.{SendError}
use Rattle.ags_outside.specs.declared.sending.SendError.TheVariants as send
use Rattle.ags_outside.specs.Sink.{appended, WroteFront}
use Rattle.ags_ports.specs.declared.events.Event.{Event}
use Rattle.ags_ports.specs.declared.machines.Machine.{Machine}
use Rattle.ags_ports.specs.Run.{AreEvents}
use Rattle.ags_program.specs.Text.{verdict_line}
use Rattle.ags_run.specs.Play.{outside_of}
use Rattle.ags_verdict.specs.declared.verdicts.Verdict.{Verdict}
use Rattle.ags_verdict.specs.declared.verdicts.Verdict.TheVariants.{Certified, Refused}
use Rattle.ags_program.specs.declared.status.Status.{Status}
use Rattle.ags_program.specs.declared.status.Status.TheVariants.{No}
use Rattle.ags_benchjudged.specs.Met.{met_line, met_status}

-- what an error of the driving met; a fault of the output and want of memory are no part of a run
abbrev pub met_of : DriveError → Met
met_of (error.StartOutside outside) = OutsideStart (outside_of outside)
met_of (error.InputRange address word) = RefusedAct (OutsidePut (record { address = address; word = word }))
met_of (error.NoDevice line device) = RefusedAct (NoDevice line device)
met_of (error.NoFeed line device) = RefusedAct (NoFeed line device)
met_of error.WriteFault = Nothing
met_of error.NoMemory = Nothing

module _ (machine : Machine) (image : List (Option ℕ)) (cert : Stated) (devices : List DeviceRecord) (lines : List (ℕ × BenchCommand)) where
  -- The script was run until it met that, the devices are those where it stops, and of what it shows and the line of what it met this
  -- was sent.
  pub record RunMet (now : List DeviceRecord) (met : Met) (Sent : (shown last : List ℕ) → Type 0) : Type 0 where
    pub events : List Event
    pub shown : List ℕ
    pub runs : IsBenchRun machine image (certificate_of cert) devices lines events shown now met
    pub words : AreEvents events
    pub sent : Sent shown (met_line met)

  -- what the run shows was sent, and of the last line at most a front
  abbrev pub MetInPart : (old new : Option (List ℕ)) (now : List DeviceRecord) → Type 0
  MetInPart old new now = (met : Met) × RunMet now met (λ shown last. WroteFront (appended old shown) new last)

  -- what is driven after the line of the verdict, and said of it
  abbrev pub Runs : (old new : Option (List ℕ)) (now : List DeviceRecord) → Result Status SendError → Type 0
  Runs old new now (Ok status) = (met : Met) × (status ≡ met_status met) × RunMet now met (λ shown last. new ≡ appended old (shown ++ last))
  Runs old new now (Err send.WriteFault) = DrivenInPart machine image (certificate_of cert) devices lines old new (λ first point. now ≡ point) ⊎ MetInPart old new now
  Runs old new now (Err send.NoMemory) = DrivenInPart machine image (certificate_of cert) devices lines old new (λ first point. AreBehind first now point) ⊎ MetInPart old new now

  -- what comes after the line of a verdict: where it certifies, the run, and else nothing
  abbrev pub AfterVerdict : Verdict Value → (old new : Option (List ℕ)) (now : List DeviceRecord) → Result Status SendError → Type 0
  AfterVerdict (Certified rows cases) old new now result = Runs old new now result
  AfterVerdict (Refused refusal) old new now result = (result ≡ Ok No) × (new ≡ old) × (now ≡ devices)

  -- The line of the verdict wasn't sent, or a front of it was, and nothing was driven.
  pub record StoppedBefore (verdict : Verdict Value) (old new : Option (List ℕ)) (now : List DeviceRecord) : Type 0 where
    pub front : WroteFront old new (verdict_line verdict)
    pub records : now ≡ devices

  -- The line of the verdict was sent and what comes after it; or the output or memory stopped it before.
  abbrev pub Benches : Verdict Value → (old new : Option (List ℕ)) (now : List DeviceRecord) → Result Status SendError → Type 0
  Benches verdict old new now (Ok status) = AfterVerdict verdict (appended old (verdict_line verdict)) new now (Ok status)
  Benches verdict old new now (Err fault) = StoppedBefore verdict old new now ⊎ AfterVerdict verdict (appended old (verdict_line verdict)) new now (Err fault)
