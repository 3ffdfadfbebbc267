-- That a script has one play on the words of a source, without a guard or under a certificate.
use Rattle.std.specs.Prelude.{◌≡◌, ℕ, ◌++◌, List, Option, Some, None}
use Rattle.std.proofs.Common.{refl, sym, ap, subst, ◌∙◌}
use Rattle.ags_asm.specs.Source.{CardWords, placed_words}
use Rattle.ags_cert.specs.Cert.{Stated, certificate_of}
use Rattle.ags_domain.specs.declared.values.Value.{Value}
use Rattle.ags_image.specs.Image.{IsImageOf}
use Rattle.ags_image.proofs.ImageLaws.{one_image}
use Rattle.ags_ports.specs.declared.events.Event.{Event}
use Rattle.ags_ports.specs.declared.machines.Machine.{Machine}
use Rattle.ags_ports.specs.Machine.{IsMachine}
use Rattle.ags_ports.specs.Run.{Moment, Run}
use Rattle.ags_verdict.specs.declared.verdicts.Verdict.{Verdict}
use Rattle.ags_verdict.specs.declared.verdicts.Verdict.TheVariants.{Certified, Refused}
use Rattle.ags_script.specs.declared.commands.Command.{Command}
use Rattle.ags_play.specs.Act.{acts_of}
use Rattle.ags_play.specs.Bench.{begun_state, start_bench}
use Rattle.ags_play.specs.Guard.{Outside}
use Rattle.ags_play.specs.Played.{Met, Nothing, PlaysUnless, IsPlayOf}
use Rattle.ags_play.proofs.FoundLemmas.{one_play_of}
use Rattle.ags_play.proofs.PlayLemmas.{play_runs}
use Rattle.ags_play.proofs.SearchLemmas.{some_play_of}
use Rattle.ags_program.specs.declared.status.Status.{Status}
use Rattle.ags_program.specs.declared.status.Status.TheVariants.{No}
use Rattle.ags_program.specs.Text.{met_line, verdict_line}
use Rattle.ags_program.specs.Work.{IsShownBy, IsPlayedBy, met_status}
use Rattle.ags_play.proofs.UnguardedLemmas.{unguarded}

-- ---- without a guard

-- the events of a play without a guard are one run
module _ (machine : Machine) (image : List (Option ℕ)) (commands : List Command) (events : List Event) (text : List ℕ) where
  run_unless : (found : Option Outside) → found ≡ None → PlaysUnless machine None (start_bench machine image None commands) (acts_of commands) found events text Nothing
      → (moments : List Moment) × Run machine (begun_state machine image None commands) events moments
  run_unless (Some outside) none played = absurd cc
  run_unless None none played =
      let runs = play_runs machine None (start_bench machine image None commands) (acts_of commands) events text played.after played.stopped played.plays in
      (runs.moments, runs.run)

  pub run_of_play : IsPlayOf machine image None commands events text Nothing
      → (moments : List Moment) × Run machine (begun_state machine image None commands) events moments
  run_of_play plays = run_unless plays.found plays.tested plays.played

pub some_shown : (machine : Machine) (defined : CardWords) (commands : List Command) (image : List (Option ℕ)) → IsMachine machine → IsImageOf (placed_words defined) image
    → (text : List ℕ) × IsShownBy machine defined commands text
some_shown machine defined commands image is image_is =
    let (events, text, met, plays) = some_play_of machine image None commands is in
    let free : IsPlayOf machine image None commands events text Nothing =
    subst (λ (m : Met). IsPlayOf machine image None commands events text m) (unguarded machine image commands events text met plays) plays in
    let (moments, run) = run_of_play machine image commands events text free in
    (text, record { image = image; image_is = image_is; events = events; moments = moments; run = run; plays = free })

pub one_shown : (machine : Machine) (defined : CardWords) (commands : List Command) (text other : List ℕ) → IsMachine machine
    → IsShownBy machine defined commands text → IsShownBy machine defined commands other → text ≡ other
one_shown machine defined commands text other is first second =
    let same = one_image (placed_words defined) first.image second.image first.image_is second.image_is in
    let plays : IsPlayOf machine first.image None commands second.events other Nothing =
    subst (λ (i : List (Option ℕ)). IsPlayOf machine i None commands second.events other Nothing) (sym same) second.plays in
    (one_play_of machine first.image None commands first.events second.events text other Nothing Nothing is first.plays plays).1

-- ---- under a certificate

module _ (machine : Machine) (image : List (Option ℕ)) (cert : Stated) (commands : List Command) (is : IsMachine machine) where
  pub some_played : (verdict : Verdict Value) → (text : List ℕ) × (status : Status) × IsPlayedBy machine image cert commands verdict text status
  some_played (Certified rows cases) =
      let (events, shown, met, plays) = some_play_of machine image (Some (certificate_of cert)) commands is in (
        verdict_line (Certified rows cases) ++ shown ++ met_line met,
        met_status met,
        record { events = events; shown = shown; met = met; plays = plays; text_is = refl; status_is = refl },
      )
  some_played (Refused refusal) = (verdict_line (Refused refusal), No, (refl, refl))

  pub one_played : (verdict : Verdict Value) (text other : List ℕ) (status ended : Status) → IsPlayedBy machine image cert commands verdict text status
      → IsPlayedBy machine image cert commands verdict other ended → (text ≡ other) × (status ≡ ended)
  one_played (Certified rows cases) text other status ended first second =
      let same = one_play_of machine image (Some (certificate_of cert)) commands first.events second.events first.shown second.shown first.met second.met is first.plays second.plays in (
        first.text_is
            ∙ ap (λ (s : List ℕ). verdict_line (Certified rows cases) ++ s ++ met_line first.met) same.1
            ∙ ap (λ (m : Met). verdict_line (Certified rows cases) ++ second.shown ++ met_line m) same.2
            ∙ sym second.text_is,
        first.status_is ∙ ap met_status same.2 ∙ sym second.status_is,
      )
  one_played (Refused refusal) text other status ended first second = (first.0 ∙ sym second.0, first.1 ∙ sym second.1)
