-- What is played under a certificate that is certified is a run of it.
use Rattle.std.proofs.Common.{ℕ, List, ◌++◌, Option, Some, ap, subst, ◌∙◌, ◌⊎◌, inl, inr}
use Rattle.ags_cert.specs.Cert.{Stated, certificate_of}
use Rattle.ags_certread.proofs.SuitLemmas.{suits}
use Rattle.ags_cert.specs.Text.{IsCertOf}
use Rattle.ags_domain.specs.Value.{value_meaning}
use Rattle.ags_domain.specs.MeaningLaws.{value_lawful}
use Rattle.ags_domain.specs.declared.values.Value.{Value}
use Rattle.ags_image.specs.Image.{IsImage}
use Rattle.ags_ports.specs.declared.machines.Machine.{Machine}
use Rattle.ags_ports.specs.Machine.{IsMachine}
use Rattle.ags_play.specs.Played.{Met, IsPlayOf}
use Rattle.ags_play.proofs.RunOfLemmas.{play_is_run, nothing_is_played}
use Rattle.ags_play.proofs.SafeLemmas.{safe_where_cut}
use Rattle.ags_safe.proofs.RunLemmas.{safe}
use Rattle.ags_script.specs.declared.commands.Command.{Command}
use Rattle.ags_script.specs.Script.{IsReadFor}
use Rattle.ags_script.proofs.SuitingLaws.{read_suits}
use Rattle.ags_play.specs.Begun.{AreSettable}
use Rattle.ags_verdict.specs.Verdict.{IsVerdict}
use Rattle.ags_verdict.specs.declared.verdicts.Verdict.{Verdict}
use Rattle.ags_verdict.specs.declared.verdicts.Verdict.TheVariants.{Certified, Refused}
use Rattle.ags_verdict.proofs.VerdictLemmas.{accepted_of, counted_of}
use Rattle.ags_program.specs.declared.status.Status.{Status}
use Rattle.ags_top.specs.Outcome.{IsRefusedFor, IsDeclaredPlay, IsDeclaredOn}
use Rattle.ags_top.specs.ThirdFile.{guarded_script, IsJudgedWith}
use Rattle.ags_program.specs.Text.{met_line, verdict_line}
use Rattle.ags_program.specs.Work.{IsGuardedPlay, IsPlayedBy}

-- what a script that was read sets and puts are locations and words
settable : (machine : Machine) (commands : List Command) → IsReadFor machine commands → AreSettable commands
settable machine commands read =
    let suits = read_suits machine commands read in
    record { locations = suits.locations; words = suits.words }

module _ (machine : Machine) (image : List (Option ℕ)) (certificate : List ℕ) (cert : Stated) (commands : List Command) (text : List ℕ) (status : Status)
    (machine_is : IsMachine machine) (image_is : IsImage image) (is_cert : IsCertOf machine.ports certificate cert) (read : IsReadFor machine commands) where
  -- what is played where the certificate is certified
  declared_play : (rows cases : ℕ) → IsVerdict value_meaning machine image (certificate_of cert) (Certified rows cases)
      → IsGuardedPlay machine image cert commands (Certified rows cases) text status → IsDeclaredPlay machine image cert commands text status
  declared_play rows cases certified played =
      let counted = counted_of value_meaning machine image (certificate_of cert) rows cases certified in
      let accepted = accepted_of value_meaning machine image (certificate_of cert) rows cases certified in
      let certificate_is = is_cert.is_stated.is_cert.certificate in record {
        accepted = accepted;
        safe = safe value_meaning value_lawful machine image (certificate_of cert) machine_is certificate_is (suits machine certificate cert is_cert) accepted;
        events = played.events;
        shown = played.shown;
        met = played.met;
        plays = played.plays;
        run = play_is_run machine image (certificate_of cert) commands played.events played.shown played.met image_is certificate_is.start (settable machine commands read) played.plays;
        cut = λ unmet. safe_where_cut machine image (certificate_of cert) commands played.events played.shown played.met image_is certificate_is.start
            (settable machine commands read) played.plays unmet
            (safe value_meaning value_lawful machine image (certificate_of cert) machine_is certificate_is (suits machine certificate cert is_cert) accepted);
        nothing = λ outside same. nothing_is_played machine image (certificate_of cert) commands played.events played.shown outside
            (subst (λ (m : Met). IsPlayOf machine image (Some (certificate_of cert)) commands played.events played.shown m) same played.plays);
        cases = cases;
        verdict = subst (λ (n : ℕ). IsVerdict value_meaning machine image (certificate_of cert) (Certified n cases)) counted.0 certified;
        text_is = played.text_is ∙ ap (λ (n : ℕ). verdict_line (Certified n cases) ++ played.shown ++ met_line played.met) counted.0;
        status_is = played.status_is;
      }

  -- by the verdict
  by_verdict : (verdict : Verdict Value) → IsVerdict value_meaning machine image (certificate_of cert) verdict → IsPlayedBy machine image cert commands verdict text status
      → IsRefusedFor machine image cert text status ⊎ IsDeclaredPlay machine image cert commands text status
  by_verdict (Certified rows cases) certified played = inr (declared_play rows cases certified played)
  by_verdict (Refused refusal) refused played = inl (record { refusal = refusal; is_verdict = refused; text_is = played.0; status_is = played.1 })

-- what is guarded is a run of the certificate, or refused
pub declared_of : (machine : Machine) (source script certificate text : List ℕ) (status : Status) → IsMachine machine → IsJudgedWith guarded_script machine source certificate script text status
    → IsDeclaredOn machine source script certificate text status
declared_of machine source script certificate text status machine_is is =
    let guarded = is.judgement in record {
      defined = is.defined;
      defines = is.defines;
      image = guarded.image;
      image_is = guarded.image_is;
      cert = is.cert;
      is_cert = is.is_cert;
      commands = is.value;
      is_script = is.holds;
      comes = by_verdict machine guarded.image certificate is.cert is.value text status machine_is guarded.image_is.is_image is.is_cert
          (record { text = script; is_script = is.holds })
          guarded.verdict
          guarded.is_verdict
          guarded.comes;
    }
