-- What is done of a work that was loaded.
use Rattle.std.specs.Prelude.{◌≡◌, ℕ, List, Option, Result}
use Rattle.ags_asm.specs.Source.{placed_words}
use Rattle.ags_benchscript.specs.declared.commands.BenchCommand.{BenchCommand}
use Rattle.ags_cert.specs.Cert.{certificate_of}
use Rattle.ags_device.specs.Record.{DeviceRecord}
use Rattle.ags_domain.specs.Value.{value_meaning}
use Rattle.ags_domain.specs.declared.values.Value.{Value}
use Rattle.ags_image.specs.Image.{IsImageOf}
use Rattle.ags_outside.specs.declared.sending.SendError.{SendError}
use Rattle.ags_plan.specs.Plan.{WorkAt}
use Rattle.ags_plan.specs.Saying.{Says}
use Rattle.ags_program.specs.Files.{Pair}
use Rattle.ags_verdict.specs.Verdict.{IsVerdict}
use Rattle.ags_verdict.specs.declared.verdicts.Verdict.{Verdict}
use Rattle.ags_program.specs.declared.status.Status.{Status}
use Rattle.ags_benchjudged.specs.Driving.{Benches}
use Rattle.ags_bench.specs.Program.{program}
use Rattle.ags_bench.specs.Work.{Work, NoForm, DrivePair}

-- The pair was judged and the script driven: of this image of the source's words, by this verdict.
pub record DoesPair (pair : Pair) (lines : List (ℕ × BenchCommand)) (devices : List DeviceRecord) (old new : Option (List ℕ)) (now : List DeviceRecord) (ended : Result Status SendError) : Type 0 where
  pub image : List (Option ℕ)
  pub image_is : IsImageOf (placed_words pair.assembly.defined) image
  pub verdict : Verdict Value
  pub is_verdict : IsVerdict value_meaning pair.machine image (certificate_of pair.cert) verdict
  pub benches : Benches pair.machine image pair.cert devices lines verdict old new now ended

-- what was done of the work with the devices that were handed in, and which they are now
abbrev pub Does : Work → (devices : List DeviceRecord) → (old new : Option (List ℕ)) → (now : List DeviceRecord) → Result Status SendError → Type 0
Does NoForm devices old new now ended = Says (program devices) (WorkAt NoForm) old new ended × (now ≡ devices)
Does (DrivePair pair lines) devices old new now ended = DoesPair pair lines devices old new now ended
