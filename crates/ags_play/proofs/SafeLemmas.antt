-- What a safe certificate promises of a play under it. Behind the clauses of the law are
--     start_is_safe     the state that it begins in
--     steps_are_safe    each step of the run of its events
--     safe_where_cut    the state at each cut
-- and the crates above cite
--     last_is_safe      the state that a run of safe steps ends in
use Rattle.std.proofs.Common.{◌≡◌, ℕ, ◌<◌, List, [], ◌∷◌, ◌++◌, sym, subst}
use Rattle.std.specs.Prelude.{Option, Some}
use Rattle.std.specs.List.{AllByRecursion}
use Rattle.ags_domain.specs.Value.{value_meaning}
use Rattle.ags_domain.specs.declared.values.Value.{Value}
use Rattle.ags_image.specs.Image.{IsImage}
use Rattle.ags_ports.specs.declared.events.Event.{Event}
use Rattle.ags_ports.specs.declared.machines.Machine.{Machine}
use Rattle.ags_ports.specs.Run.{Moment, Run, AtEachStep, last_state}
use Rattle.ags_ports.specs.State.{State}
use Rattle.ags_safe.specs.Certificate.{Certificate}
use Rattle.ags_safe.specs.Safe.{IsSafeState, IsSafeStep, Safe}
use Rattle.ags_script.specs.declared.commands.Command.{Command}
use Rattle.ags_play.specs.Act.{Act}
use Rattle.ags_play.specs.Bench.{begun_state, start_bench}
use Rattle.ags_play.specs.Cut.{IsSafeWhereCut}
use Rattle.ags_play.specs.Guard.{Outside}
use Rattle.ags_play.specs.Played.{Met, OutsideStart, IsPlayOf}
use Rattle.ags_play.specs.Begun.{AreSettable, IsRunOf}
use Rattle.ags_play.proofs.EventLemmas.{PutsWord, play_events, acts_put}
use Rattle.ags_play.proofs.PlayLemmas.{play_runs, play_declared}
use Rattle.ags_play.proofs.RunOfLemmas.{play_is_run}

-- what all of some acts are, those at the front of them are
front_puts : (first second : List Act) → AllByRecursion PutsWord (first ++ second) → AllByRecursion PutsWord first
front_puts [] second all = tt
front_puts (act ∷ first) second all = (all.0, front_puts first second all.1)

-- where each step of a run is safe, so is the state at its end
pub last_is_safe : (machine : Machine) (image : List (Option ℕ)) (cert : Certificate Value) (s : State) (events : List Event) (moments : List Moment)
    → IsSafeState value_meaning machine image cert s → AtEachStep (IsSafeStep value_meaning machine image cert) s events moments
    → IsSafeState value_meaning machine image cert (last_state s moments)
last_is_safe machine image cert s [] [] safe steps = safe
last_is_safe machine image cert s (event ∷ events) (moment ∷ moments) safe steps =
    last_is_safe machine image cert moment.after events moments steps.0.after steps.1
last_is_safe machine image cert s [] (moment ∷ moments) safe steps = absurd steps
last_is_safe machine image cert s (event ∷ events) [] safe steps = absurd steps

module _ (machine : Machine) (image : List (Option ℕ)) (cert : Certificate Value) (commands : List Command) (events : List Event) (text : List ℕ) (met : Met)
    (is : IsImage image) (below : cert.start < 4096) (settable : AreSettable commands) (p : IsPlayOf machine image (Some cert) commands events text met)
    (unmet : (outside : Outside) → met ≡ OutsideStart outside → ⊥) (safe : Safe value_meaning machine image cert) where
  run_of_play : IsRunOf machine image cert (begun_state machine image (Some cert) commands) events
  run_of_play = play_is_run machine image cert commands events text met is below settable p unmet

  pub start_is_safe : IsSafeState value_meaning machine image cert (begun_state machine image (Some cert) commands)
  start_is_safe = safe.start (begun_state machine image (Some cert) commands) run_of_play.start

  pub steps_are_safe : (moments : List Moment) → Run machine (begun_state machine image (Some cert) commands) events moments
      → AtEachStep (IsSafeStep value_meaning machine image cert) (begun_state machine image (Some cert) commands) events moments
  steps_are_safe moments run =
      safe.steps (begun_state machine image (Some cert) commands) events moments run_of_play.start run_of_play.words run_of_play.declared run

  pub safe_where_cut : IsSafeWhereCut machine image cert commands
  safe_where_cut first second early shown mid stopped acts plays =
      let b = start_bench machine image (Some cert) commands in
      let runs = play_runs machine (Some cert) b first early shown mid stopped plays in
      let puts = front_puts first second (subst (λ (all : List Act). AllByRecursion PutsWord all) acts (acts_put commands settable.words)) in
      let words = play_events machine (Some cert) b first early shown mid stopped puts plays in
      let declared = play_declared machine cert b first early shown mid stopped plays in
      let steps = safe.steps b.core early runs.moments run_of_play.start words declared runs.run in
      subst (λ (s : State). IsSafeState value_meaning machine image cert s) (sym runs.ends)
      (last_is_safe machine image cert b.core early runs.moments start_is_safe steps)
