-- A play under a certificate is a run of the certificate.
use Rattle.std.proofs.Common.{◌≡◌, ℕ, ◌<◌, List, []}
use Rattle.std.specs.Prelude.{Option, Some, None}
use Rattle.ags_domain.specs.declared.values.Value.{Value}
use Rattle.ags_image.specs.Image.{IsImage}
use Rattle.ags_ports.specs.declared.events.Event.{Event}
use Rattle.ags_ports.specs.declared.machines.Machine.{Machine}
use Rattle.ags_safe.specs.Certificate.{Certificate}
use Rattle.ags_script.specs.declared.commands.Command.{Command}
use Rattle.ags_play.specs.Act.{acts_of}
use Rattle.ags_play.specs.Bench.{begun_state, start_bench}
use Rattle.ags_play.specs.Doing.{PutWord}
use Rattle.ags_play.specs.Guard.{Outside, IsFirstOutside}
use Rattle.ags_play.specs.Played.{Met, OutsideStart, PlaysUnless, IsPlayOf, met_of}
use Rattle.ags_play.specs.Begun.{AreSettable, IsRunOf}
use Rattle.ags_play.proofs.EventLemmas.{play_events, acts_put}
use Rattle.ags_play.proofs.PlayLemmas.{play_runs, play_declared}
use Rattle.ags_play.proofs.StartLemmas.{begun_is_start}

module _ (machine : Machine) (image : List (Option ℕ)) (cert : Certificate Value) (commands : List Command) (events : List Event) (text : List ℕ) where
  run_unless : (found : Option Outside) (met : Met) → IsImage image → cert.start < 4096 → AreSettable commands
      → IsFirstOutside machine image cert (begun_state machine image (Some cert) commands) found
      → PlaysUnless machine (Some cert) (start_bench machine image (Some cert) commands) (acts_of commands) found events text met
      → ((outside : Outside) → met ≡ OutsideStart outside → ⊥) → IsRunOf machine image cert (begun_state machine image (Some cert) commands) events
  run_unless (Some outside) met is below settable tested p unmet = absurd (unmet outside p.2)
  run_unless None met is below settable tested p unmet =
      let b = start_bench machine image (Some cert) commands in
      let runs = play_runs machine (Some cert) b (acts_of commands) events text p.after p.stopped p.plays in
      record {
        start = begun_is_start machine image cert commands is below settable tested;
        words = play_events machine (Some cert) b (acts_of commands) events text p.after p.stopped (acts_put commands settable.words) p.plays;
        declared = play_declared machine cert b (acts_of commands) events text p.after p.stopped p.plays;
        moments = runs.moments;
        run = runs.run;
      }

  pub play_is_run : (met : Met) → IsImage image → cert.start < 4096 → AreSettable commands → IsPlayOf machine image (Some cert) commands events text met
      → ((outside : Outside) → met ≡ OutsideStart outside → ⊥) → IsRunOf machine image cert (begun_state machine image (Some cert) commands) events
  play_is_run met is below settable p unmet = run_unless p.found met is below settable p.tested p.played unmet

  not_start : (put : Option PutWord) (outside : Outside) → OutsideStart outside ≡ met_of put → ⊥
  not_start None outside same = cc
  not_start (Some put) outside same = cc

  none_unless : (found : Option Outside) (outside : Outside)
      → PlaysUnless machine (Some cert) (start_bench machine image (Some cert) commands) (acts_of commands) found events text (OutsideStart outside) → (events ≡ []) × (text ≡ [])
  none_unless (Some other) outside p = (p.0, p.1)
  none_unless None outside p = absurd (not_start p.stopped outside p.met_is)

  pub nothing_is_played : (outside : Outside) → IsPlayOf machine image (Some cert) commands events text (OutsideStart outside) → (events ≡ []) × (text ≡ [])
  nothing_is_played outside p = none_unless p.found outside p.played
