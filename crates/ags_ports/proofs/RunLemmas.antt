-- What holds of each step holds along each run. The crates above cite:
--     some_run, one_run             from each state, each list of events has one run
--     run-append, last-append       a run that goes on where another ends makes one run with it, which ends where the second does
--     run-split                     a run over one list of events and then another is one over each, in turn
--     some_end, one_end             from each state, each list of events leads to one state
--     end-nil, end-step             none to the state itself, one event to the state that its step leaves
--     end-append, end-split         one list and then another by way of a state between
--     steps_of_run, run_of_steps    a run is a step at each of its events
--     along_run, along_states       what holds of every step, or of each from a state, holds at each step of a run
--     front_steps, later_steps, joined_steps    what holds at each step holds in each part of a run, and the other way
use Rattle.std.proofs.Common.{◌≡◌, ℕ, ◌≤◌, refl, sym, ap, subst, ◌∙◌, List, [], ◌∷◌, ◌++◌}
use Rattle.ags_ports.specs.declared.events.Phase.TheVariants.{Halted}
use Rattle.ags_ports.specs.declared.events.Event.{Event}
use Rattle.ags_ports.specs.declared.events.Done.{Done}
use Rattle.ags_ports.specs.declared.machines.Machine.{Machine}
use Rattle.ags_ports.specs.Machine.{IsMachine}
use Rattle.ags_ports.specs.State.{State, IsState, cell}
use Rattle.ags_ports.specs.Step.{IsEvent, Steps, ChangesInputsAlone}
use Rattle.ags_ports.specs.Run.{Moment, Run, RunsTo, RunsInTurn, AtEach, AtEachStep, AreEvents, last_state}
use Rattle.ags_ports.proofs.StepLemmas.{some_step, one_step}
use Rattle.ags_ports.proofs.StateLemmas.{step_keeps}
use Rattle.ags_ports.proofs.CellLemmas.{step_fixed}
use Rattle.ags_ports.proofs.PhaseLemmas.{halts}

same_moment : (m n : Moment) (ms ns : List Moment) → m.report ≡ n.report → m.after ≡ n.after → ms ≡ ns → m ∷ ms ≡ n ∷ ns
same_moment m n ms ns e f g =
    let h : m ≡ n = made m.report n.report m.after n.after e f in cc
  where
    made : (d e : Done) (a b : State) → d ≡ e → a ≡ b → ◌≡◌ {A = Moment} (record { report = d; after = a }) (record { report = e; after = b })
    made d e a b p r = cc

fixed_from : (at word : ℕ) → 2048 ≤ at → (machine : Machine) (s : State) (events : List Event) (moments : List Moment) → cell s at ≡ word → Run machine s events moments → AtEach (λ moment. cell moment.after at ≡ word) moments
fixed_from at word fixed machine s [] [] same p = tt
fixed_from at word fixed machine s [] (m ∷ ms) same p = absurd p
fixed_from at word fixed machine s (event ∷ events) [] same p = absurd p
fixed_from at word fixed machine s (event ∷ events) (m ∷ ms) same p =
    let next = step_fixed machine s event m.report m.after at fixed p.0 ∙ same in
    (next, fixed_from at word fixed machine m.after events ms next p.1)

-- what changes inputs alone, and then again, changes inputs alone
alone_again : (s between after : State) → ChangesInputsAlone s between → ChangesInputsAlone between after → ChangesInputsAlone s after
alone_again s between after first second = second ∙ ap (λ (t : State). record t { inputs = after.inputs }) first

alone_from : (start : State) (machine : Machine) (s : State) (events : List Event) (moments : List Moment) → s.phase ≡ Halted → ChangesInputsAlone start s
    → Run machine s events moments → AtEach (λ moment. ChangesInputsAlone start moment.after) moments
alone_from start machine s [] [] halted alone p = tt
alone_from start machine s [] (m ∷ ms) halted alone p = absurd p
alone_from start machine s (event ∷ events) [] halted alone p = absurd p
alone_from start machine s (event ∷ events) (m ∷ ms) halted alone p =
    let step = halts machine s event m.report m.after halted p.0 in
    let next = alone_again start s m.after alone step in
    (next, alone_from start machine m.after events ms (ap (λ (t : State). t.phase) step ∙ halted) next p.1)

pub last-append : (s : State) (moments others : List Moment) → last_state s (moments ++ others) ≡ last_state (last_state s moments) others
last-append s [] others = refl
last-append s (m ∷ ms) others = last-append m.after ms others

-- ---- each step of a run

abbrev IsStepOf : Machine → State → Event → Moment → Type 0
IsStepOf machine s event moment = Steps machine s event moment.report moment.after

module _ (P : State → Event → Moment → Type 0) where
  pub along_run : (machine : Machine) (s : State) (events : List Event) (moments : List Moment) → ((before : State) (event : Event) (moment : Moment) → IsStepOf machine before event moment → P before event moment)
      → Run machine s events moments → AtEachStep P s events moments
  along_run machine s [] [] each p = tt
  along_run machine s [] (m ∷ ms) each p = p
  along_run machine s (event ∷ events) [] each p = p
  along_run machine s (event ∷ events) (m ∷ ms) each p = (each s event m p.0, along_run machine m.after events ms each p.1)

  pub along_states : (machine : Machine) (s : State) (events : List Event) (moments : List Moment) → IsMachine machine → IsState machine s → AreEvents events
      → ((before : State) (event : Event) (moment : Moment) → IsState machine before → IsEvent event → IsStepOf machine before event moment → P before event moment)
      → Run machine s events moments → AtEachStep P s events moments
  along_states machine s [] [] h is right each p = tt
  along_states machine s [] (m ∷ ms) h is right each p = p
  along_states machine s (event ∷ events) [] h is right each p = p
  along_states machine s (event ∷ events) (m ∷ ms) h is right each p =
      (each s event m is right.0 p.0, along_states machine m.after events ms h (step_keeps machine s event m.report m.after h is right.0 p.0) right.1 each p.1)

  pub front_steps : (machine : Machine) (s : State) (first second : List Event) (moments others : List Moment) → Run machine s first moments → AtEachStep P s (first ++ second) (moments ++ others)
      → AtEachStep P s first moments
  front_steps machine s [] second [] others p each = tt
  front_steps machine s [] second (m ∷ ms) others p each = p
  front_steps machine s (event ∷ first) second [] others p each = p
  front_steps machine s (event ∷ first) second (m ∷ ms) others p each = (each.0, front_steps machine m.after first second ms others p.1 each.1)

  pub later_steps : (machine : Machine) (s : State) (first second : List Event) (moments others : List Moment) → Run machine s first moments → AtEachStep P s (first ++ second) (moments ++ others)
      → AtEachStep P (last_state s moments) second others
  later_steps machine s [] second [] others p each = each
  later_steps machine s [] second (m ∷ ms) others p each = absurd p
  later_steps machine s (event ∷ first) second [] others p each = absurd p
  later_steps machine s (event ∷ first) second (m ∷ ms) others p each = later_steps machine m.after first second ms others p.1 each.1

  pub joined_steps : (s : State) (first second : List Event) (moments others : List Moment) → AtEachStep P s first moments → AtEachStep P (last_state s moments) second others
      → AtEachStep P s (first ++ second) (moments ++ others)
  joined_steps s [] second [] others early late = late
  joined_steps s [] second (m ∷ ms) others early late = absurd early
  joined_steps s (event ∷ first) second [] others early late = absurd early
  joined_steps s (event ∷ first) second (m ∷ ms) others early late = (early.0, joined_steps m.after first second ms others early.1 late)

module _ (machine : Machine) where
  pub some_run : (s : State) (events : List Event) → (moments : List Moment) × Run machine s events moments
  some_run s [] = ([], tt)
  some_run s (event ∷ events) =
      let first = some_step machine s event in
      let rest = some_run first.1 events in
      (record { report = first.0; after = first.1 } ∷ rest.0, (first.2, rest.1))

  pub one_run : (s : State) (events : List Event) (moments others : List Moment) → IsMachine machine → Run machine s events moments → Run machine s events others → moments ≡ others
  one_run s [] [] [] h p r = refl
  one_run s [] [] (n ∷ ns) h p r = absurd r
  one_run s [] (m ∷ ms) ns h p r = absurd p
  one_run s (event ∷ events) [] ns h p r = absurd p
  one_run s (event ∷ events) (m ∷ ms) [] h p r = absurd r
  one_run s (event ∷ events) (m ∷ ms) (n ∷ ns) h p r =
      let first = one_step machine s event m.report n.report m.after n.after h p.0 r.0 in
      let rest = one_run m.after events ms ns h p.1 (subst (λ (t : State). Run machine t events ns) (sym first.1) r.1) in
      same_moment m n ms ns first.0 first.1 rest

  pub run_keeps : (s : State) (events : List Event) (moments : List Moment) → IsMachine machine → IsState machine s → AreEvents events → Run machine s events moments → AtEach (λ moment. IsState machine moment.after) moments
  run_keeps s [] [] h is right p = tt
  run_keeps s [] (m ∷ ms) h is right p = absurd p
  run_keeps s (event ∷ events) [] h is right p = absurd p
  run_keeps s (event ∷ events) (m ∷ ms) h is right p =
      let next = step_keeps machine s event m.report m.after h is right.0 p.0 in
      (next, run_keeps m.after events ms h next right.1 p.1)

  pub run_fixed : (s : State) (events : List Event) (moments : List Moment) (at : ℕ) → 2048 ≤ at → Run machine s events moments → AtEach (λ moment. cell moment.after at ≡ cell s at) moments
  run_fixed s events moments at fixed p = fixed_from at (cell s at) fixed machine s events moments refl p

  pub run_halted : (s : State) (events : List Event) (moments : List Moment) → s.phase ≡ Halted → Run machine s events moments → AtEach (λ moment. moment.after.phase ≡ Halted) moments
  run_halted s [] [] halted p = tt
  run_halted s [] (m ∷ ms) halted p = absurd p
  run_halted s (event ∷ events) [] halted p = absurd p
  run_halted s (event ∷ events) (m ∷ ms) halted p =
      let next = ap (λ (t : State). t.phase) (halts machine s event m.report m.after halted p.0) ∙ halted in
      (next, run_halted m.after events ms next p.1)

  pub run_alone : (s : State) (events : List Event) (moments : List Moment) → s.phase ≡ Halted → Run machine s events moments → AtEach (λ moment. ChangesInputsAlone s moment.after) moments
  run_alone s events moments halted p = alone_from s machine s events moments halted refl p

  -- a run goes on from where another ends
  pub run-append : (s : State) (events more : List Event) (moments others : List Moment) → Run machine s events moments → Run machine (last_state s moments) more others → Run machine s (events ++ more) (moments ++ others)
  run-append s [] more [] others p r = r
  run-append s [] more (m ∷ ms) others p r = absurd p
  run-append s (event ∷ events) more [] others p r = absurd p
  run-append s (event ∷ events) more (m ∷ ms) others p r = (p.0, run-append m.after events more ms others p.1 r)

  -- ---- a run that is cut

  pub run-split : (s : State) (first second : List Event) (moments : List Moment) → Run machine s (first ++ second) moments → RunsInTurn machine s first second moments
  run-split s [] second moments p = record { early = []; late = moments; moments_are = refl; run = tt; goes_on = p }
  run-split s (event ∷ first) second [] p = absurd p
  run-split s (event ∷ first) second (m ∷ ms) p =
      let rest = run-split m.after first second ms p.1 in
      record {
        early = m ∷ rest.early;
        late = rest.late;
        moments_are = ap (λ (moments : List Moment). m ∷ moments) rest.moments_are;
        run = (p.0, rest.run);
        goes_on = rest.goes_on;
      }

  -- ---- the state that events lead to

  pub some_end : (s : State) (events : List Event) → (after : State) × RunsTo machine s events after
  some_end s events = let run = some_run s events in (last_state s run.0, record { moments = run.0; run = run.1; ends = refl })

  pub one_end : (s : State) (events : List Event) (after left : State) → IsMachine machine → RunsTo machine s events after → RunsTo machine s events left → after ≡ left
  one_end s events after left h p r =
      let same = one_run s events p.moments r.moments h p.run r.run in
      p.ends ∙ ap (last_state s) same ∙ sym r.ends

  pub end-nil : (s : State) → RunsTo machine s [] s
  end-nil s = record { moments = []; run = tt; ends = refl }

  pub end-step : (s : State) (event : Event) (report : Done) (after : State) → Steps machine s event report after → RunsTo machine s (event ∷ []) after
  end-step s event report after step = record { moments = record { report = report; after = after } ∷ []; run = (step, tt); ends = refl }

  pub end-append : (s mid after : State) (first second : List Event) → RunsTo machine s first mid → RunsTo machine mid second after → RunsTo machine s (first ++ second) after
  end-append s mid after first second p r = record {
    moments = p.moments ++ r.moments;
    run = run-append s first second p.moments r.moments p.run (subst (λ (t : State). Run machine t second r.moments) p.ends r.run);
    ends = r.ends ∙ ap (λ (t : State). last_state t r.moments) p.ends ∙ sym (last-append s p.moments r.moments);
  }

  pub end-split : (s after : State) (first second : List Event) → RunsTo machine s (first ++ second) after
      → (mid : State) × RunsTo machine s first mid × RunsTo machine mid second after
  end-split s after first second p =
      let cut = run-split s first second p.moments p.run in (
        last_state s cut.early,
        record { moments = cut.early; run = cut.run; ends = refl },
        record { moments = cut.late; run = cut.goes_on; ends = p.ends ∙ ap (last_state s) cut.moments_are ∙ last-append s cut.early cut.late },
      )

  pub steps_of_run : (s : State) (events : List Event) (moments : List Moment) → Run machine s events moments → AtEachStep (IsStepOf machine) s events moments
  steps_of_run s [] [] p = tt
  steps_of_run s [] (m ∷ ms) p = p
  steps_of_run s (event ∷ events) [] p = p
  steps_of_run s (event ∷ events) (m ∷ ms) p = (p.0, steps_of_run m.after events ms p.1)

  pub run_of_steps : (s : State) (events : List Event) (moments : List Moment) → AtEachStep (IsStepOf machine) s events moments → Run machine s events moments
  run_of_steps s [] [] p = tt
  run_of_steps s [] (m ∷ ms) p = p
  run_of_steps s (event ∷ events) [] p = p
  run_of_steps s (event ∷ events) (m ∷ ms) p = (p.0, run_of_steps m.after events ms p.1)
