-- A script has one bench run. Behind the clauses of the law are
--     some_bench_run    it has one
--     one_bench_run     two of them are the same
-- and the crates above cite
--     some_outside      of each start one thing is outside first, or nothing is
use Rattle.std.proofs.Common.{◌≡◌, ℕ, List, [], length, refl, sym, subst, ◌∙◌}
use Rattle.std.specs.Prelude.{Option, Some, None}
use Rattle.ags_benchscript.specs.declared.commands.BenchCommand.{BenchCommand}
use Rattle.ags_device.specs.Record.{DeviceRecord}
use Rattle.ags_domain.specs.declared.values.Value.{Value}
use Rattle.ags_play.specs.Guard.{Outside, IsFirstOutside}
use Rattle.ags_play.proofs.FoundLemmas.{one_found}
use Rattle.ags_play.proofs.SearchLemmas.{some_found}
use Rattle.ags_ports.specs.declared.events.Event.{Event}
use Rattle.ags_ports.specs.declared.machines.Machine.{Machine}
use Rattle.ags_ports.specs.Machine.{IsMachine}
use Rattle.ags_safe.specs.Certificate.{Certificate}
use Rattle.ags_drive.specs.Act.{Act, acts_of_script}
use Rattle.ags_drive.specs.Bench.{Bench, start_bench}
use Rattle.ags_drive.specs.BenchRun.{Met, OutsideStart, RunsUnless, IsBenchRun}
use Rattle.ags_drive.proofs.OneRunLemmas.{some_run, runs_once}

module _ (machine : Machine) (image : List (Option ℕ)) (cert : Certificate Value) (devices : List DeviceRecord) (lines : List (ℕ × BenchCommand)) (h : IsMachine machine) where
  abbrev start : Bench
  start = start_bench machine image cert devices

  abbrev acts : List Act
  acts = acts_of_script (length devices) lines

  pub some_outside : (found : Option Outside) × IsFirstOutside machine image cert start.core found
  some_outside = some_found machine image cert start.core h

  abbrev SomeRun : Option Outside → Type 0
  SomeRun found = (events : List Event) × (text : List ℕ) × (now : List DeviceRecord) × (met : Met) × RunsUnless machine cert start acts found events text now met

  some_unless : (found : Option Outside) → SomeRun found
  some_unless None = some_run machine cert h start acts
  some_unless (Some outside) = ([], [], devices, OutsideStart outside, (refl, refl, refl, refl))

  pub some_bench_run : (events : List Event) × (text : List ℕ) × (now : List DeviceRecord) × (met : Met) × IsBenchRun machine image cert devices lines events text now met
  some_bench_run =
      let outside = some_outside in
      let (events, text, now, met, runs) = some_unless outside.0 in
      (events, text, now, met, record { found = outside.0; tested = outside.1; runs = runs })

  one_unless : (found : Option Outside) (events others : List Event) (text other : List ℕ) (now then : List DeviceRecord) (met unmet : Met)
      → RunsUnless machine cert start acts found events text now met → RunsUnless machine cert start acts found others other then unmet → (events ≡ others) × (text ≡ other) × (now ≡ then) × (met ≡ unmet)
  one_unless None events others text other now then met unmet p q = runs_once machine cert h start acts events others text other now then met unmet p q
  one_unless (Some outside) events others text other now then met unmet p q = (p.0 ∙ sym q.0, p.1 ∙ sym q.1, p.2 ∙ sym q.2, p.3 ∙ sym q.3)

  pub one_bench_run : (events others : List Event) (text other : List ℕ) (now then : List DeviceRecord) (met unmet : Met) → IsBenchRun machine image cert devices lines events text now met
      → IsBenchRun machine image cert devices lines others other then unmet → (events ≡ others) × (text ≡ other) × (now ≡ then) × (met ≡ unmet)
  one_bench_run events others text other now then met unmet p q =
      let same = one_found machine image cert start.core p.found q.found p.tested q.tested in
      one_unless p.found events others text other now then met unmet p.runs
      (subst (λ (f : Option Outside). RunsUnless machine cert start acts f others other then unmet) (sym same) q.runs)
