-- What a walk that comes to a pair and a script read, and what is certified of them.
use Rattle.std.proofs.Common.{◌≡◌, ℕ, ◌<◌, List, length, Option, Some, None, sym, subst}
use Rattle.ags_asm.specs.Source.{placed_words}
use Rattle.ags_benchscript.specs.declared.commands.BenchCommand.{BenchCommand}
use Rattle.ags_cert.specs.Cert.{certificate_of}
use Rattle.ags_cert.specs.Text.{IsCertOf}
use Rattle.ags_certread.proofs.SuitLemmas.{suits}
use Rattle.ags_device.specs.Record.{DeviceRecord}
use Rattle.ags_domain.specs.MeaningLaws.{value_lawful}
use Rattle.ags_domain.specs.Value.{value_meaning}
use Rattle.ags_image.specs.Image.{IsImageOf}
use Rattle.ags_machfile.proofs.FileLemmas.{machine_of-IsMachine}
use Rattle.ags_plan.specs.Plan.{WorkAt}
use Rattle.ags_plan.specs.Walk.{Told, Agrees, EndsAt, LeadsTo}
use Rattle.ags_plan.proofs.WorkLemmas.{way_to_work}
use Rattle.ags_ports.specs.declared.machines.Machine.{Machine}
use Rattle.ags_ports.specs.Machine.{IsMachine, standard_machine}
use Rattle.ags_ports.proofs.MachineLemmas.{IsMachine-standard}
use Rattle.ags_program.specs.Files.{Pair}
use Rattle.ags_safe.proofs.RunLemmas.{safe}
use Rattle.ags_verdict.specs.Verdict.{IsVerdict}
use Rattle.ags_verdict.specs.declared.verdicts.Verdict.TheVariants.{Certified}
use Rattle.ags_verdict.proofs.VerdictLemmas.{accepted_of, counted_of}
use Rattle.ags_bench.specs.Outcome.{Call, EndsSo, IsCertified}
use Rattle.ags_bench.specs.Program.{program, files_plan, plan_on, asked_plan}
use Rattle.ags_bench.specs.Words.{Asked, asked_of}
use Rattle.ags_bench.specs.Work.{Work, NoForm, DrivePair}

-- The machine's tables are valid, and the certificate was read for its registers.
pub record IsReadPair (pair : Pair) : Type 0 where
  pub valid : IsMachine pair.machine
  pub text : List ℕ
  pub is_cert : IsCertOf pair.machine.ports text pair.cert

abbrev IsReadWork : Work → Type 0
IsReadWork NoForm = Unit {0}
IsReadWork (DrivePair pair lines) = IsReadPair pair

module _ (devices : List DeviceRecord) (told : Told) where
  read_on_way : (asked : Asked) (machine : Machine) (work : Work) → IsMachine machine → LeadsTo (program devices) Agrees told (files_plan devices asked machine) work → IsReadWork work
  read_on_way asked machine work is (assembly, (bytes, agrees, holds), (stated, (text, sees, has), (lines, found, same))) =
      subst IsReadWork same (record { valid = is; text = text; is_cert = has.holds })

  read_by_line : (asked : Asked) (machine : Option (List ℕ)) (work : Work) → LeadsTo (program devices) Agrees told (plan_on devices machine (files_plan devices asked)) work → IsReadWork work
  read_by_line asked None work leads = read_on_way asked standard_machine work IsMachine-standard leads
  read_by_line asked (Some name) work (machine, (bytes, agrees, holds), leads) = read_on_way asked machine work (machine_of-IsMachine bytes machine holds.holds) leads

  read_by : (asked : Option Asked) (work : Work) → EndsAt (program devices) Agrees told (asked_plan devices asked) (WorkAt work) → IsReadWork work
  read_by None work end = let same : work ≡ NoForm = cc in subst IsReadWork (sym same) tt
  read_by (Some asked) work ends = read_by_line asked asked.machine work (way_to_work (program devices) Agrees told (asked_plan devices (Some asked)) work ends)

-- a walk that comes to a pair read it
pub pair_read : (call : Call) (pair : Pair) (lines : List (ℕ × BenchCommand)) → EndsSo Agrees call (WorkAt (DrivePair pair lines)) → IsReadPair pair
pair_read call pair lines ends = read_by call.devices call.told (asked_of call.words) (DrivePair pair lines) ends

module _ (call : Call) (pair : Pair) (lines : List (ℕ × BenchCommand)) (ends : EndsSo Agrees call (WorkAt (DrivePair pair lines))) (image : List (Option ℕ))
    (image_is : IsImageOf (placed_words pair.assembly.defined) image) where
  -- what the verdict certifies
  unfoldable pub certified : (cases : ℕ) → IsVerdict value_meaning pair.machine image (certificate_of pair.cert) (Certified (length pair.cert.rows) cases) → IsCertified call
  certified cases is =
      let read = pair_read call pair lines ends in
      let accepted = accepted_of value_meaning pair.machine image (certificate_of pair.cert) (length pair.cert.rows) cases is in
      record {
        pair = pair;
        lines = lines;
        comes = ends;
        valid = read.valid;
        image = image;
        image_is = image_is;
        accepted = accepted;
        safe = safe value_meaning value_lawful pair.machine image (certificate_of pair.cert) read.valid read.is_cert.is_stated.is_cert.certificate
            (suits pair.machine read.text pair.cert read.is_cert)
            accepted;
        cases = cases;
        verdict = is;
      }

  -- the number of rows in a verdict is that of the certificate's
  pub rows_are : (rows cases : ℕ) → IsVerdict value_meaning pair.machine image (certificate_of pair.cert) (Certified rows cases) → rows ≡ length pair.cert.rows
  rows_are rows cases is = (counted_of value_meaning pair.machine image (certificate_of pair.cert) rows cases is).0

  -- the certificate's start is a location
  pub start_below : pair.cert.start < 4096
  start_below = (pair_read call pair lines ends).is_cert.is_stated.is_cert.certificate.start
