-- Steps, pulses and the steps of a cycle, as acts. The proofs of `stepping` cite:
--     step_made, step_starved      a step, of which all or a part was heard
--     pulse_made                   a pulse
--     cycle_made, cycle_starved    the steps of a cycle, of which all or a part was heard
use Rattle.std.proofs.Common.{◌≡◌, ℕ, zero, suc, ◌+◌, ◌%◌, ◌^◌, ◌<◌, cond, List, [], ◌∷◌, length, replicate, refl, sym, ap, subst, ◌∙◌, arith}
use Rattle.std.specs.Prelude.{Option, count_by}
use Rattle.std.proofs.lemmas.List.Folds.{sum_by-replicate}
use Rattle.ags_drive.specs.Act.{MakesStep, Pulses, RunsCycle}
use Rattle.ags_drive.specs.Bench as play
use Rattle.ags_drive.specs.Doing.{devices_given, devices_along}
use Rattle.ags_drive.specs.Driven.{AreBehind}
use Rattle.ags_device.specs.Record.{DeviceRecord}
use Rattle.ags_domain.specs.declared.values.Value.{Value}
use Rattle.ags_play.specs.Counted.{is_step, is_put}
use Rattle.ags_play.specs.Doing.{time_left, carry_in}
use Rattle.ags_ports.specs.declared.events.Done.{Done}
use Rattle.ags_ports.specs.declared.events.Event.TheVariants as event
use Rattle.ags_ports.specs.declared.machines.Machine.{Machine}
use Rattle.ags_ports.specs.Run.{Moment, AreEvents, last_state}
use Rattle.ags_ports.specs.State.{State}
use Rattle.ags_ports.specs.Step.{Steps}
use Rattle.ags_safe.specs.Certificate.{Certificate}
use Rattle.ags_timed.specs.Timed.{IsTimedRun, RunsFor}
use Rattle.ags_drive.specs.declared.benches.Bench.{Bench}
use Rattle.ags_drive.specs.declared.drive_error.DriveError.TheVariants as error
use Rattle.ags_drive.specs.declared.listeners.Listener.{Listener}
use Rattle.ags_drive.specs.Listening.{Notes}
use Rattle.ags_drive.specs.Making.{AreCounted, ActMade, Unmade}
use Rattle.ags_drive.specs.Standing.{bench_of}
use Rattle.ags_drive.proofs.HearLemmas.{seen_steps}
use Rattle.ags_drive.proofs.JoinLemmas.{act_starved}

-- two benches with the same state, devices and carry are one
pub same_bench : (core other : State) (devices others : List DeviceRecord) (carry another : ℕ) → core ≡ other → devices ≡ others → carry ≡ another
    → ◌≡◌ {A = play.Bench} (record { core = core; devices = devices; carry = carry }) (record { core = other; devices = others; carry = another })
same_bench core other devices others carry another p q r = cc

-- ---- counts

steps_among : (count : ℕ) → count_by is_step (replicate count event.Step) ≡ count
steps_among count = sum_by-replicate (λ e. cond (is_step e) 1 0) count event.Step ∙ omega arith

puts_among : (count : ℕ) → count_by is_put (replicate count event.Step) ≡ 0
puts_among count = sum_by-replicate (λ e. cond (is_put e) 1 0) count event.Step ∙ omega arith

steps_counted : (before after : Bench) (count : ℕ) → after.listener.steps ≡ (before.listener.steps + count) % 2 ^ 64 → after.puts ≡ before.puts → AreCounted before after (replicate count event.Step)
steps_counted before after count steps puts = record {
  steps = steps ∙ ap (λ (n : ℕ). (before.listener.steps + n) % 2 ^ 64) (sym (steps_among count));
  puts = omega (arith, puts, puts_among count);
}

step_words : (count : ℕ) → AreEvents (replicate count event.Step)
step_words zero = tt
step_words (suc count) = (tt, step_words count)

module _ (machine : Machine) (cert : Certificate Value) where
  -- ---- one step

  pub step_made : (before after : Bench) (report : Done) (devices now : List DeviceRecord) → Steps machine before.core event.Step report after.core → after.listener.steps ≡ (before.listener.steps + 1) % 2 ^ 64
      → after.carry ≡ before.carry → after.puts ≡ before.puts → now ≡ devices_given machine report.gave devices → ActMade machine cert MakesStep before after devices now
  step_made before after report devices now step steps carry puts heard = record {
    through = refl;
    events = event.Step ∷ [];
    moments = record { report = report; after = after.core } ∷ [];
    does = record { makes = refl; run = (step, tt) };
    words = (tt, tt);
    after_is = same_bench after.core after.core now (devices_given machine report.gave devices) after.carry before.carry refl heard carry;
    counted = record { steps = steps; puts = omega (arith, puts) };
  }

  pub step_starved : (before : Bench) (core : State) (report : Done) (devices now : List DeviceRecord) (told : Option (List ℕ)) → Steps machine before.core event.Step report core
      → AreBehind devices now (devices_given machine report.gave devices) → Unmade machine cert (bench_of before devices) (MakesStep ∷ []) told told now error.NoMemory
  step_starved before core report devices now told step behind =
      act_starved machine cert (bench_of before devices) MakesStep (event.Step ∷ []) (record { report = report; after = core } ∷ []) told now refl (record { makes = refl; run = (step, tt) }) (tt, tt) refl behind

  -- ---- a pulse

  pub pulse_made : (before after : Bench) (report : Done) (devices : List DeviceRecord) → before.listener.steps < 2 ^ 64 → Steps machine before.core event.Pulse report after.core → after.listener ≡ before.listener
      → after.carry ≡ before.carry → after.puts ≡ before.puts → ActMade machine cert Pulses before after devices devices
  pulse_made before after report devices fits step listener carry puts = record {
    through = refl;
    events = event.Pulse ∷ [];
    moments = record { report = report; after = after.core } ∷ [];
    does = record { makes = refl; run = (step, tt) };
    words = (tt, tt);
    after_is = same_bench after.core after.core devices (devices_given machine report.gave devices) after.carry before.carry refl (ap (λ (r : Done). devices_given machine r.gave devices) (sym step.0)) carry;
    counted = record { steps = let same = ap (λ (l : Listener). l.steps) listener in omega (arith, same, fits); puts = omega (arith, puts) };
  }

  -- ---- the steps of a cycle

  pub cycle_made : (before started after : Bench) (spent : ℕ) (devices now : List DeviceRecord) → started.core ≡ before.core → started.listener.steps ≡ before.listener.steps → before.listener.steps < 2 ^ 64
      → (run : RunsFor Notes machine (time_left before.carry) started.core started.listener after.core after.listener spent) → after.carry ≡ carry_in after.core.phase (time_left before.carry) spent
      → after.puts ≡ before.puts → now ≡ devices_along machine devices run.moments → ActMade machine cert RunsCycle before after devices now
  cycle_made before started after spent devices now core steps fits run carry puts heard =
      let timed : IsTimedRun machine (time_left before.carry) before.core run.moments spent = subst (λ (s : State). IsTimedRun machine (time_left before.carry) s run.moments spent) core run.timed in
      let ends : after.core ≡ last_state before.core run.moments = run.ends ∙ ap (λ (s : State). last_state s run.moments) core in
      let begun : started.listener.steps < 2 ^ 64 = omega (arith, steps, fits) in
      record {
        through = refl;
        events = replicate (length run.moments) event.Step;
        moments = run.moments;
        does = record { makes = record { spent = spent; timed = timed; steps = refl }; run = timed.run };
        words = step_words (length run.moments);
        after_is = same_bench after.core (last_state before.core run.moments) now (devices_along machine devices run.moments) after.carry
            (carry_in (last_state before.core run.moments).phase (time_left before.carry) _) ends heard
            (carry ∙ ap (λ (s : State). carry_in s.phase (time_left before.carry) spent) ends ∙ ap (carry_in (last_state before.core run.moments).phase (time_left before.carry)) timed.time);
        counted = steps_counted before after (length run.moments)
            (seen_steps run.moments started.listener after.listener begun run.seen ∙ ap (λ (n : ℕ). (n + length run.moments) % 2 ^ 64) steps) puts;
      }

  pub cycle_starved : (before : Bench) (moments : List Moment) (spent : ℕ) (devices now : List DeviceRecord) (told : Option (List ℕ)) → IsTimedRun machine (time_left before.carry) before.core moments spent
      → AreBehind devices now (devices_along machine devices moments) → Unmade machine cert (bench_of before devices) (RunsCycle ∷ []) told told now error.NoMemory
  cycle_starved before moments spent devices now told timed behind =
      act_starved machine cert (bench_of before devices) RunsCycle (replicate (length moments) event.Step) moments told now refl
      (record { makes = record { spent = spent; timed = timed; steps = refl }; run = timed.run }) (step_words (length moments)) refl behind
