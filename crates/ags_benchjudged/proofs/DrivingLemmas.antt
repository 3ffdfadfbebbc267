-- What is said of a script that was driven, and of a verdict.
use Rattle.std.proofs.Common.{◌≡◌, ℕ, List, Option, refl, sym, ap, subst, ◌∙◌, inl, inr, append-nil}
use Rattle.std.specs.Prelude.{Result, Ok, Err, IfOk, OnOk, OnErr}
use Rattle.ags_drive.specs.BenchRun.{Met, Nothing}
use Rattle.ags_drive.specs.Driven.{DrivenTo, DrivenWhole}
use Rattle.ags_benchscript.specs.declared.commands.BenchCommand.{BenchCommand}
use Rattle.ags_cert.specs.Cert.{Stated, certificate_of}
use Rattle.ags_device.specs.Record.{DeviceRecord}
use Rattle.ags_domain.specs.declared.values.Value.{Value}
use Rattle.ags_outside.specs.declared.sending.SendError.{SendError}
use Rattle.ags_outside.specs.declared.sending.SendError.TheVariants as send
use Rattle.ags_outside.specs.Sink.{appended, appended_twice, WroteFront}
use Rattle.ags_ports.specs.declared.machines.Machine.{Machine}
use Rattle.ags_program.specs.Text.{verdict_line}
use Rattle.ags_verdict.specs.declared.verdicts.Refusal.{Refusal}
use Rattle.ags_verdict.specs.declared.verdicts.Verdict.{Verdict}
use Rattle.ags_verdict.specs.declared.verdicts.Verdict.TheVariants.{Certified, Refused}
use Rattle.ags_program.specs.declared.status.Status.{Status}
use Rattle.ags_program.specs.declared.status.Status.TheVariants.{Done, No}
use Rattle.ags_benchjudged.specs.Driving.{Runs, Benches}
use Rattle.ags_benchjudged.specs.Met.{met_line, met_status}

-- the script was driven to its end
pub whole_runs : (machine : Machine) (image : List (Option ℕ)) (cert : Stated) (devices : List DeviceRecord) (lines : List (ℕ × BenchCommand)) (old new : Option (List ℕ)) (now : List DeviceRecord)
    (steps puts : ℕ) → DrivenWhole machine image (certificate_of cert) devices lines old new now steps puts → Runs machine image cert devices lines old new now (Ok Done)
whole_runs machine image cert devices lines old new now steps puts driven =
    (Nothing, refl, record { events = driven.events; shown = driven.text; runs = driven.runs; words = driven.words; sent = driven.sent ∙ ap (appended old) (sym (append-nil driven.text)) })

module _ (machine : Machine) (image : List (Option ℕ)) (cert : Stated) (devices : List DeviceRecord) (lines : List (ℕ × BenchCommand)) (old mid new : Option (List ℕ)) (now : List DeviceRecord) where
  -- it met something, which was said or in part
  pub met_runs : (met : Met) (result : Result Status SendError) → met_status met ≡ No → DrivenTo machine image (certificate_of cert) devices lines old mid now met
      → IfOk result (λ status. status ≡ No) → OnOk result (new ≡ appended mid (met_line met)) → OnErr result (WroteFront mid new (met_line met))
      → Runs machine image cert devices lines old new now result
  met_runs met (Ok status) is driven ended sent front = (
    met,
    ended ∙ sym is,
    record {
      events = driven.events;
      shown = driven.text;
      runs = driven.runs;
      words = driven.words;
      sent = sent ∙ ap (λ (o : Option (List ℕ)). appended o (met_line met)) driven.sent ∙ appended_twice old driven.text (met_line met);
    },
  )
  met_runs met (Err send.WriteFault) is driven ended sent front = inr (
    met,
    record { events = driven.events; shown = driven.text; runs = driven.runs; words = driven.words; sent = subst (λ (o : Option (List ℕ)). WroteFront o new (met_line met)) driven.sent front },
  )
  met_runs met (Err send.NoMemory) is driven ended sent front = inr (
    met,
    record { events = driven.events; shown = driven.text; runs = driven.runs; words = driven.words; sent = subst (λ (o : Option (List ℕ)). WroteFront o new (met_line met)) driven.sent front },
  )

  -- ---- with the line of the verdict

  -- it was sent, and says that the certificate is certified: the script is driven
  pub certified_runs : (rows cases : ℕ) (ended : Result Status SendError) → mid ≡ appended old (verdict_line (Certified rows cases)) → Runs machine image cert devices lines mid new now ended
      → Benches machine image cert devices lines (Certified rows cases) old new now ended
  certified_runs rows cases (Ok status) sent runs = subst (λ (o : Option (List ℕ)). Runs machine image cert devices lines o new now (Ok status)) sent runs
  certified_runs rows cases (Err fault) sent runs = inr (subst (λ (o : Option (List ℕ)). Runs machine image cert devices lines o new now (Err fault)) sent runs)

module _ (machine : Machine) (image : List (Option ℕ)) (cert : Stated) (devices : List DeviceRecord) (lines : List (ℕ × BenchCommand)) (old new : Option (List ℕ)) (now : List DeviceRecord) where
  -- a front of the line was sent, or nothing
  pub line_in_part : (verdict : Verdict Value) (fault : SendError) → now ≡ devices → WroteFront old new (verdict_line verdict) → Benches machine image cert devices lines verdict old new now (Err fault)
  line_in_part verdict fault stayed front = inl (record { front = front; records = stayed })

  -- or that it is refused
  pub refused_stops : (refusal : Refusal Value) → now ≡ devices → new ≡ appended old (verdict_line (Refused refusal)) → Benches machine image cert devices lines (Refused refusal) old new now (Ok No)
  refused_stops refusal stayed sent = (refl, sent, stayed)
