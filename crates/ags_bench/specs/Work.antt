-- What is done once the files are loaded, and what it makes with the devices that were handed in.
use Rattle.std.specs.Prelude.{◌≡◌, ℕ, List, ◌++◌, Option}
use Rattle.ags_asm.specs.Source.{placed_words}
use Rattle.ags_drive.specs.BenchRun.{Met, IsBenchRun}
use Rattle.ags_benchscript.specs.declared.commands.BenchCommand.{BenchCommand}
use Rattle.ags_cert.specs.Cert.{Stated, certificate_of}
use Rattle.ags_device.specs.Record.{DeviceRecord}
use Rattle.ags_domain.specs.Value.{value_meaning}
use Rattle.ags_domain.specs.declared.values.Value.{Value}
use Rattle.ags_image.specs.Image.{IsImageOf}
use Rattle.ags_ports.specs.declared.events.Event.{Event}
use Rattle.ags_ports.specs.declared.machines.Machine.{Machine}
use Rattle.ags_program.specs.Files.{Pair}
use Rattle.ags_program.specs.Text.{verdict_line, words_line}
use Rattle.ags_verdict.specs.Verdict.{IsVerdict}
use Rattle.ags_verdict.specs.declared.verdicts.Verdict.{Verdict}
use Rattle.ags_verdict.specs.declared.verdicts.Verdict.TheVariants.{Certified, Refused}
use Rattle.ags_program.specs.declared.status.Status.{Status}
use Rattle.ags_program.specs.declared.status.Status.TheVariants.{No, BadWords}
use Rattle.ags_benchjudged.specs.Met.{met_line, met_status}

-- it is said that the words are none of the forms; or a certificate is judged for a source's words, and, where it is certified, the
-- lines of a script are run
pub data Work : Type 0 where
  NoForm : Work
  DrivePair : (pair : Pair) (lines : List (ℕ × BenchCommand)) → Work

-- The text is the line of the verdict, what the lines' run with the devices shows, and, where it met something, the line that says so;
-- and this is the status of what it met.
pub record IsDriven (machine : Machine) (image : List (Option ℕ)) (cert : Stated) (devices : List DeviceRecord) (lines : List (ℕ × BenchCommand))
    (verdict : Verdict Value) (text : List ℕ) (status : Status) : Type 0 where
  pub events : List Event
  pub shown : List ℕ
  pub now : List DeviceRecord
  pub met : Met
  pub runs : IsBenchRun machine image (certificate_of cert) devices lines events shown now met
  pub text_is : text ≡ verdict_line verdict ++ (shown ++ met_line met)
  pub status_is : status ≡ met_status met

-- where the certificate is certified, the run; where it is refused, the line of its verdict alone
abbrev pub ComesOfVerdict : Machine → (image : List (Option ℕ)) → Stated → List DeviceRecord → List (ℕ × BenchCommand) → Verdict Value → (text : List ℕ) → Status → Type 0
ComesOfVerdict machine image cert devices lines (Certified rows cases) text status = IsDriven machine image cert devices lines (Certified rows cases) text status
ComesOfVerdict machine image cert devices lines (Refused refusal) text status = (text ≡ verdict_line (Refused refusal)) × (status ≡ No)

-- The text and the status are those of the verdict of the pair's certificate for the image of the words of its source, and of the run.
pub record IsBenchOf (devices : List DeviceRecord) (pair : Pair) (lines : List (ℕ × BenchCommand)) (text : List ℕ) (status : Status) : Type 0 where
  pub image : List (Option ℕ)
  pub image_is : IsImageOf (placed_words pair.assembly.defined) image
  pub verdict : Verdict Value
  pub is_verdict : IsVerdict value_meaning pair.machine image (certificate_of pair.cert) verdict
  pub comes : ComesOfVerdict pair.machine image pair.cert devices lines verdict text status

-- with these devices the work makes this text, with this status
abbrev pub Makes : List DeviceRecord → Work → (text : List ℕ) → Status → Type 0
Makes devices NoForm text status = (text ≡ words_line) × (status ≡ BadWords)
Makes devices (DrivePair pair lines) text status = IsBenchOf devices pair lines text status
