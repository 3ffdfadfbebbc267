-- A bench run is a run of its certificate, and safe where that is. The crates above cite:
--     run_where_cut     the events up to each point are a run of the certificate
--     safe_where_cut    the state at each point is safe
use Rattle.std.proofs.Common.{◌≡◌, ℕ, ◌<◌, List, [], ◌∷◌, sym, subst}
use Rattle.std.specs.Prelude.{Option, Some, None}
use Rattle.std.proofs.lemmas.List.Elements.{All-nil}
use Rattle.ags_benchscript.specs.declared.commands.BenchCommand.{BenchCommand}
use Rattle.ags_device.specs.Record.{DeviceRecord}
use Rattle.ags_domain.specs.Value.{value_meaning}
use Rattle.ags_domain.specs.declared.values.Value.{Value}
use Rattle.ags_image.specs.Image.{IsImage}
use Rattle.ags_play.specs.Begun.{IsRunOf}
use Rattle.ags_play.specs.Guard.{Outside, IsFirstOutside}
use Rattle.ags_play.proofs.SafeLemmas.{last_is_safe}
use Rattle.ags_play.proofs.StartLemmas.{begun_is_start}
use Rattle.ags_ports.specs.declared.events.Event.{Event}
use Rattle.ags_ports.specs.declared.machines.Machine.{Machine}
use Rattle.ags_ports.specs.Run.{Moment, Run, AreEvents, AtEachStep}
use Rattle.ags_ports.specs.State.{State}
use Rattle.ags_safe.specs.Certificate.{Certificate}
use Rattle.ags_safe.specs.Safe.{IsSafeState, IsSafeStep, Safe}
use Rattle.ags_safe.specs.Start.{IsStart}
use Rattle.ags_script.specs.Suiting.{NamesLocation, NamesWord}
use Rattle.ags_drive.specs.Act.{Act}
use Rattle.ags_drive.specs.Bench.{Bench, start_bench}
use Rattle.ags_drive.specs.BenchRun.{Met, OutsideStart, RunsUnless, StopsAt, IsBenchRun}
use Rattle.ags_drive.specs.Cut.{IsRunWhereCut, IsSafeWhereCut}
use Rattle.ags_drive.proofs.RunLemmas.{play_runs, play_declared}

module _ (machine : Machine) (image : List (Option ℕ)) (cert : Certificate Value) (devices : List DeviceRecord) (is : IsImage image) (below : cert.start < 4096) where
  abbrev first : Bench
  first = start_bench machine image cert devices

  abbrev IsInside : Type 0
  IsInside = IsFirstOutside machine image cert first.core None

  start_is : IsInside → IsStart value_meaning machine image cert first.core
  start_is inside = begun_is_start machine image cert [] is below (record { locations = All-nil NamesLocation; words = All-nil NamesWord }) inside

  run_at : (inside : IsInside) (acts : List Act) → IsRunWhereCut machine image cert first acts
  run_at inside acts = λ events text here done rest p words.
      let runs = play_runs machine cert first here done events text p.plays in
      record {
        run = record {
          start = start_is inside;
          words = words;
          declared = play_declared machine cert first here done events text p.plays;
          moments = runs.moments;
          run = runs.run;
        };
        leads = runs;
      }

  pub run_where_cut : (acts : List Act) → IsInside → IsRunWhereCut machine image cert first acts
  run_where_cut acts inside = run_at inside acts

  pub safe_where_cut : (acts : List Act) → IsInside → Safe value_meaning machine image cert → IsSafeWhereCut machine image cert first acts
  safe_where_cut acts inside safe = λ events text here done rest p words.
      let at = run_at inside acts events text here done rest p words in
      let steps = safe.steps first.core events at.leads.moments at.run.start words at.run.declared at.leads.run in
      subst (λ (s : State). IsSafeState value_meaning machine image cert s) (sym at.leads.ends)
      (last_is_safe machine image cert first.core events at.leads.moments (safe.start first.core at.run.start) steps)

  -- ---- a whole run

  module _ (lines : List (ℕ × BenchCommand)) (events : List Event) (text : List ℕ) (now : List DeviceRecord) (met : Met) (words : AreEvents events) where
    run_unless : (found : Option Outside) (acts : List Act) → IsFirstOutside machine image cert first.core found → RunsUnless machine cert first acts found events text now met
        → ((outside : Outside) → met ≡ OutsideStart outside → ⊥) → IsRunOf machine image cert first.core events
    run_unless (Some outside) acts tested p unmet = absurd (unmet outside p.3)
    run_unless None acts tested p unmet = (run_at tested acts events text p.here p.done p.rest p.point words).run

    pub run_of_bench : IsBenchRun machine image cert devices lines events text now met → ((outside : Outside) → met ≡ OutsideStart outside → ⊥) → IsRunOf machine image cert first.core events
    run_of_bench p unmet = run_unless p.found _ p.tested p.runs unmet

    pub bench_is_safe : IsBenchRun machine image cert devices lines events text now met → ((outside : Outside) → met ≡ OutsideStart outside → ⊥) → Safe value_meaning machine image cert
        → (moments : List Moment) → Run machine first.core events moments → AtEachStep (IsSafeStep value_meaning machine image cert) first.core events moments
    bench_is_safe p unmet safe moments run = let r = run_of_bench p unmet in safe.steps first.core events moments r.start words r.declared run

module _ (machine : Machine) (image : List (Option ℕ)) (cert : Certificate Value) (devices : List DeviceRecord) (lines : List (ℕ × BenchCommand)) (events : List Event) (text : List ℕ) (now : List DeviceRecord) (outside : Outside) where
  stops_elsewhere : (here : Bench) (rest : List Act) → StopsAt machine cert here rest now (OutsideStart outside) → ⊥
  stops_elsewhere here [] p = cc
  stops_elsewhere here (act ∷ rest) p = let e = p.3 in cc

  none_unless : (found : Option Outside) (b : Bench) (acts : List Act) → RunsUnless machine cert b acts found events text now (OutsideStart outside) → (events ≡ []) × (text ≡ []) × (now ≡ b.devices)
  none_unless (Some other) b acts p = (p.0, p.1, p.2)
  none_unless None b acts p = absurd (stops_elsewhere p.here p.rest p.stops)

  pub nothing_is_run : IsBenchRun machine image cert devices lines events text now (OutsideStart outside) → (events ≡ []) × (text ≡ []) × (now ≡ devices)
  nothing_is_run p = none_unless p.found (start_bench machine image cert devices) _ p.runs
