-- Every run of an accepted certificate is safe. Behind the law is
--     safe    the starts and each step of each run, where the certificate is accepted
use Rattle.std.proofs.Common.{◌≡◌, ℕ, sym, ◌∙◌, List, [], ◌∷◌}
use Rattle.std.specs.Prelude.{Option}
use Rattle.ags_domain.specs.Domain.{Meaning, IsMeaning}
use Rattle.ags_ports.specs.declared.events.Phase.TheVariants.{Running, Halted}
use Rattle.ags_ports.specs.declared.events.Event.{Event}
use Rattle.ags_ports.specs.declared.machines.Machine.{Machine}
use Rattle.ags_ports.specs.Machine.{IsMachine}
use Rattle.ags_ports.specs.State.{State}
use Rattle.ags_ports.specs.Run.{Moment, Run, AreEvents, AtEachStep}
use Rattle.ags_safe.specs.Certificate.{Certificate, IsCertificate, Suits}
use Rattle.ags_safe.specs.Start.{IsStart, AreDeclared}
use Rattle.ags_safe.specs.Safe.{IsSafeStep, Safe}
use Rattle.ags_safe.specs.Accepted.{Accepted}
use Rattle.ags_safe.proofs.StartLemmas.{start_is_safe}
use Rattle.ags_safe.proofs.StepLemmas.{IsKept, event_good}

running_halted : Running ≡ Halted → ⊥
running_halted h = cc

module _ {D : Type 0} (meaning : Meaning D) (lawful : IsMeaning D meaning) (machine : Machine) (image : List (Option ℕ)) (cert : Certificate D)
    (machine_is : IsMachine machine) (is_cert : IsCertificate meaning cert) (suits : Suits meaning machine cert)
    (accepted : Accepted meaning machine image cert) where
  start_kept : (s : State) → IsStart meaning machine image cert s → IsKept meaning machine image cert s
  start_kept s start = record {
    state = start.state;
    safe = start_is_safe meaning machine image cert is_cert accepted s start;
    awake = λ halts. running_halted (sym start.running ∙ halts);
  }

  run_safe : (s : State) (events : List Event) (moments : List Moment) → IsKept meaning machine image cert s → AreEvents events
      → AreDeclared meaning machine cert events → Run machine s events moments → AtEachStep (IsSafeStep meaning machine image cert) s events moments
  run_safe s [] [] kept are declared run = tt
  run_safe s [] (m ∷ ms) kept are declared run = absurd run
  run_safe s (event ∷ events) [] kept are declared run = absurd run
  run_safe s (event ∷ events) (m ∷ ms) kept are declared run =
      let good = event_good meaning machine image cert lawful machine_is suits accepted s kept event m.report m.after are.0 declared.0 run.0 in
      (good.0, run_safe m.after events ms good.1 are.1 declared.1 run.1)

  pub safe : Safe meaning machine image cert
  safe = record {
    start = start_is_safe meaning machine image cert is_cert accepted;
    steps = λ s events moments start are declared run. run_safe s events moments (start_kept s start) are declared run;
  }
