-- Timed runs: how one grows step by step, and that there is exactly one. The crates above cite:
--     some_timed, one_timed      from each state there is a timed run, and one alone
--     timed_none, timed_idle     the run of no step
--     timed_most                 how far the last order may pass the limit
--     timed_few                  no more steps than microseconds
use Rattle.std.proofs.Common.{◌≡◌, ◌≢◌, ◌⊎◌, ℕ, zero, suc, ◌+◌, ◌-◌, ◌<◌, ◌≤◌, Bool, true, false, List, [], ◌∷◌, ◌++◌, length, get_or, take, refl, sym, ap, subst, ◌∙◌, inl, inr, arith}
use Rattle.std.specs.Prelude.{replicate, Option, Some, None, IfSome, ◌/◌, ◌%◌, ◌^◌}
use Rattle.std.specs.Option.{option_map_or}
use Rattle.ags_ports.specs.Time.{time_of}
use Rattle.std.proofs.lemmas.Bool.{cases_Bool, cases_lt}
use Rattle.std.proofs.lemmas.List.{length-append, length-take-le, take-append-le, take-take, take_all, take_more}
use Rattle.std.proofs.lemmas.List.Sums.{sum_by-append}
use Rattle.std.proofs.Math.Seq.{take-append_seam}
use Rattle.ags_isa.specs.declared.decoding.Decoded.{Decoded}
use Rattle.ags_isa.specs.declared.orders.Order.{Order}
use Rattle.ags_isa.specs.Code.{code_of, order_of}
use Rattle.ags_isa.specs.Naming.{Names}
use Rattle.ags_isa.proofs.CodeLemmas.{order_of-found}
use Rattle.ags_isa.proofs.WordLemmas.{code_names}
use Rattle.ags_ports.specs.declared.events.Phase.{Phase}
use Rattle.ags_ports.specs.declared.events.Phase.TheVariants.{Running, Waiting, Halted}
use Rattle.ags_ports.specs.declared.events.Event.{Event}
use Rattle.ags_ports.specs.declared.events.Event.TheVariants.{Step}
use Rattle.ags_ports.specs.declared.events.Done.{Done}
use Rattle.ags_ports.specs.declared.machines.Machine.{Machine}
use Rattle.ags_ports.specs.Machine.{IsMachine}
use Rattle.ags_ports.specs.State.{State}
use Rattle.ags_ports.specs.Step.{Steps, StepsIn, Obeys}
use Rattle.ags_ports.specs.OrderTime.{order_time}
use Rattle.ags_ports.specs.Run.{Moment, Run, last_state}
use Rattle.ags_ports.proofs.StepLemmas.{some_step}
use Rattle.ags_ports.proofs.OrderTimeLemmas.{time-least, time-most}
use Rattle.ags_ports.proofs.RunLemmas.{run-append, last-append, one_run}
use Rattle.ags_timed.specs.Timed.{time_of_moments, GoesOn, IsTimedRun, LooksAt, RunsSteps}

-- ---- a run grows at its end

-- a run of steps as far as it has come: each of its fronts went on
pub record IsSoFar (machine : Machine) (limit : ℕ) (s : State) (moments : List Moment) (here : State) (spent : ℕ) : Type 0 where
  pub run : Run machine s (replicate (length moments) Step) moments
  pub here_is : here ≡ last_state s moments
  pub time : spent ≡ time_of_moments machine moments
  pub least : (count : ℕ) → count < length moments → GoesOn machine limit s (take count moments)

-- so it is, and a watcher saw each report
pub record IsSeenSoFar {W : Type 0} (looks : W → Done → W → Type 0) (machine : Machine) (limit : ℕ) (s : State) (watcher : W) (here : State) (watcher_here : W) (spent : ℕ) : Type 0 where
  pub moments : List Moment
  pub so_far : IsSoFar machine limit s moments here spent
  pub seen : LooksAt looks watcher moments watcher_here

so_far_none : (machine : Machine) (limit : ℕ) (s : State) → IsSoFar machine limit s [] s 0
so_far_none machine limit s = record { run = tt; here_is = refl; time = refl; least = λ count below. absurd (omega (arith, below)) }

steps_more : (n : ℕ) → replicate n Step ++ Step ∷ [] ≡ replicate (n + 1) Step
steps_more zero = refl
steps_more (suc n) =
    let next : suc n + 1 ≡ suc (n + 1) = omega arith in
    rw next (ap (λ (events : List Event). Step ∷ events) (steps_more n))

so_far_more : (machine : Machine) (limit : ℕ) (s : State) (moments : List Moment) (here : State) (spent : ℕ) (moment : Moment) → IsSoFar machine limit s moments here spent
    → spent < limit → here.phase ≡ Running → Steps machine here Step moment.report moment.after
    → IsSoFar machine limit s (moments ++ moment ∷ []) moment.after (spent + order_time machine moment.report)
so_far_more machine limit s moments here spent moment so_far time_left running steps = record {
  run =
      let events : replicate (length moments) Step ++ Step ∷ [] ≡ replicate (length (moments ++ moment ∷ [])) Step =
      steps_more (length moments) ∙ ap (λ n. replicate n Step) (sym (length-append moments (moment ∷ []))) in
      let P : List Event → Type 0 = λ es. Run machine s es (moments ++ moment ∷ []) in
      subst P events (run-append machine s (replicate (length moments) Step) (Step ∷ []) moments (moment ∷ []) so_far.run (rw so_far.here_is at steps, tt));
  here_is = sym (last-append s moments (moment ∷ []));
  time = rw (sum_by-append (λ (m : Moment). order_time machine m.report) moments (moment ∷ [])) (omega (arith, so_far.time));
  least = λ count below. elim (cases_lt count (length moments)) [
    | inl earlier ↦
        let front : take count (moments ++ moment ∷ []) ≡ take count moments = take-append-le count moments (moment ∷ []) (omega (arith, earlier)) in
        rw front (so_far.least count earlier)
    | inr past ↦
        let all : count ≡ length moments = omega (arith, past, below, length-append moments (moment ∷ [])) in
        rw (all, take-append_seam moments (moment ∷ [])) (record { time = rw (← so_far.time) time_left; running = rw (← so_far.here_is) running })
  ];
}

looks_more : {W : Type 0} (looks : W → Done → W → Type 0) (moments : List Moment) (moment : Moment) (watcher between after : W) → LooksAt looks watcher moments between → looks between moment.report after
    → LooksAt looks watcher (moments ++ moment ∷ []) after
looks_more looks [] moment watcher between after seen look = (after, rw (← seen) look, refl)
looks_more looks (m ∷ moments) moment watcher between after seen look = (seen.0, seen.1, looks_more looks moments moment seen.0 between after seen.2 look)

pub seen_more : {W : Type 0} (looks : W → Done → W → Type 0) (machine : Machine) (limit : ℕ) (s : State) (watcher : W) (here : State) (watcher_here : W) (spent : ℕ) (report : Done)
    (after : State) (watcher_after : W) → IsSeenSoFar looks machine limit s watcher here watcher_here spent → spent < limit → here.phase ≡ Running → Steps machine here Step report after
    → looks watcher_here report watcher_after → IsSeenSoFar looks machine limit s watcher after watcher_after (spent + order_time machine report)
seen_more looks machine limit s watcher here watcher_here spent report after watcher_after so_far time_left running steps look =
    let moment : Moment = record { report = report; after = after } in
    record {
      moments = so_far.moments ++ moment ∷ [];
      so_far = so_far_more machine limit s so_far.moments here spent moment so_far.so_far time_left running steps;
      seen = looks_more looks so_far.moments moment watcher watcher_here watcher_after so_far.seen look;
    }

-- ---- so many steps

pub steps_further : {W : Type 0} (looks : W → Done → W → Type 0) (machine : Machine) (count : ℕ) (s : State) (watcher : W) (here : State) (watcher_here : W) (report : Done)
    (after : State) (watcher_after : W) → RunsSteps looks machine count s watcher here watcher_here → Steps machine here Step report after
    → looks watcher_here report watcher_after → RunsSteps looks machine (count + 1) s watcher after watcher_after
steps_further looks machine count s watcher here watcher_here report after watcher_after so_far steps look =
    let moment : Moment = record { report = report; after = after } in
    record {
      moments = so_far.moments ++ moment ∷ [];
      run =
          let P : List Event → Type 0 = λ es. Run machine s es (so_far.moments ++ moment ∷ []) in
          subst P (steps_more count) (run-append machine s (replicate count Step) (Step ∷ []) so_far.moments (moment ∷ []) so_far.run (rw so_far.ends at steps, tt));
      ends = sym (last-append s so_far.moments (moment ∷ []));
      seen = looks_more looks so_far.moments moment watcher watcher_here watcher_after so_far.seen look;
    }

-- ---- there is one

pub timed_none : (machine : Machine) (s : State) → IsTimedRun machine 0 s [] 0
timed_none machine s = record { run = tt; time = refl; over = inl (omega arith); least = λ count below. absurd (omega (arith, below)) }

pub timed_idle : (machine : Machine) (limit : ℕ) (s : State) → s.phase ≢ Running → IsTimedRun machine limit s [] 0
timed_idle machine limit s idle = record { run = tt; time = refl; over = inr idle; least = λ count below. absurd (omega (arith, below)) }

-- a step that runs no order halts
pub halts_unless_ran : (machine : Machine) (s : State) (report : Done) (after : State) → s.phase ≡ Running → Steps machine s Step report after → report.ran ≡ false → after.phase ≡ Halted
halts_unless_ran machine s report after running steps idle = by_phase s.phase running steps
  where
    false_is_true : false ≡ true → ⊥
    false_is_true h = cc

    waits : Waiting ≡ Running → ⊥
    waits h = cc

    halted : Halted ≡ Running → ⊥
    halted h = cc

    by_reading : (named : Option Decoded) → Obeys machine s named report after → after.phase ≡ Halted
    by_reading (Some decoded) obeys = absurd (false_is_true (sym idle ∙ ap (λ (r : Done). r.ran) obeys.0))
    by_reading None obeys = ap (λ (t : State). t.phase) obeys.1

    by_phase : (phase : Phase) → phase ≡ Running → StepsIn phase machine s report after → after.phase ≡ Halted
    by_phase Running is found = by_reading found.0 found.2
    by_phase Waiting is found = absurd (waits is)
    by_phase Halted is found = absurd (halted is)

time_of_first : (machine : Machine) (moment : Moment) (moments : List Moment)
    → time_of_moments machine (moment ∷ moments) ≡ order_time machine moment.report + time_of_moments machine moments
time_of_first machine moment moments =
    let parts = sum_by-append (λ (m : Moment). order_time machine m.report) (moment ∷ []) moments in
    let first : 0 + order_time machine moment.report ≡ order_time machine moment.report = omega arith in
    parts ∙ ap (λ n. n + time_of_moments machine moments) first

-- a step, and a timed run for what is left of the time, are a timed run
timed_step : (machine : Machine) (limit : ℕ) (s : State) (moment : Moment) (moments : List Moment) (rest : ℕ) → 0 < limit → s.phase ≡ Running
    → Steps machine s Step moment.report moment.after → IsTimedRun machine (limit - order_time machine moment.report) moment.after moments rest
    → IsTimedRun machine limit s (moment ∷ moments) (rest + order_time machine moment.report)
timed_step machine limit s moment moments rest some running steps timed = record {
  run = (steps, timed.run);
  time = rw (time_of_first machine moment moments) (omega (arith, timed.time));
  over = over timed.over;
  least = least;
}
  where
    over : (limit - order_time machine moment.report ≤ rest) ⊎ ((last_state moment.after moments).phase ≢ Running)
        → (limit ≤ rest + order_time machine moment.report) ⊎ ((last_state moment.after moments).phase ≢ Running)
    over (inl spent) = inl (omega (arith, spent))
    over (inr idle) = inr idle

    least : (count : ℕ) → count < length (moment ∷ moments) → GoesOn machine limit s (take count (moment ∷ moments))
    least zero below = record { time = some; running = running }
    least (suc count) below =
        let later = timed.least count (omega (arith, below)) in
        record { time = rw (time_of_first machine moment (take count moments)) (omega (arith, later.time)); running = later.running }

-- 1 where orders run, and else 0
pub weight : Phase → ℕ
weight Running = 1
weight Waiting = 0
weight Halted = 0

weight-most : (phase : Phase) → weight phase ≤ 1
unfolding weight
weight-most Running = omega arith
weight-most Waiting = omega arith
weight-most Halted = omega arith

weight-running : weight Running ≡ 1
unfolding weight
weight-running = refl

weight-halted : weight Halted ≡ 0
unfolding weight
weight-halted = refl

record HasTimedRun (machine : Machine) (limit : ℕ) (s : State) : Type 0 where
  moments : List Moment
  spent : ℕ
  timed : IsTimedRun machine limit s moments spent

-- what is left after a step is less
less_left : (machine : Machine) (limit fuel : ℕ) (s : State) (report : Done) (after : State) → IsMachine machine → s.phase ≡ Running → Steps machine s Step report after
    → 0 < limit → limit ≤ fuel → (limit - order_time machine report) + weight after.phase ≤ fuel
less_left machine limit fuel s report after is running steps some enough =
    elim (cases_Bool report.ran) [
      | inl ran ↦ omega (arith, time-least machine s Step report after is steps ran, weight-most after.phase, some, enough)
      | inr idle ↦ rw (halts_unless_ran machine s report after running steps idle, weight-halted) (omega (arith, enough))
    ]

-- and so is the measure of a loop over such steps
pub measure_falls : (machine : Machine) (limit spent : ℕ) (s : State) (report : Done) (after : State) → IsMachine machine → s.phase ≡ Running → Steps machine s Step report after
    → spent < limit → (limit - (spent + order_time machine report)) + weight after.phase < (limit - spent) + weight s.phase
measure_falls machine limit spent s report after is running steps some =
    let less = less_left machine (limit - spent) (limit - spent) s report after is running steps (omega (arith, some)) (omega arith) in
    let same : limit - (spent + order_time machine report) ≡ limit - spent - order_time machine report = omega arith in
    rw (same, running, weight-running) (omega (arith, less))

timed_from : (machine : Machine) (limit fuel : ℕ) (s : State) → IsMachine machine → ((left : ℕ) (next : State) → left + weight next.phase ≤ fuel → HasTimedRun machine left next)
    → suc limit + weight s.phase ≤ suc fuel → (phase : Phase) → s.phase ≡ phase → HasTimedRun machine (suc limit) s
timed_from machine limit fuel s is rest enough Running at =
    let first = some_step machine s Step in
    let moment : Moment = record { report = first.0; after = first.1 } in
    let fits : suc limit + 1 ≤ suc fuel = rw (at, weight-running) at enough in
    let later = rest (suc limit - order_time machine first.0) first.1
    (less_left machine (suc limit) fuel s first.0 first.1 is at first.2 (omega arith) (omega (arith, fits))) in
    record {
      moments = moment ∷ later.moments;
      spent = later.spent + order_time machine first.0;
      timed = timed_step machine (suc limit) s moment later.moments later.spent (omega arith) at first.2 later.timed;
    }
timed_from machine limit fuel s is rest enough Waiting at =
    record { moments = []; spent = 0; timed = timed_idle machine (suc limit) s (λ running. waits (sym at ∙ running)) }
  where
    waits : Waiting ≡ Running → ⊥
    waits h = cc
timed_from machine limit fuel s is rest enough Halted at =
    record { moments = []; spent = 0; timed = timed_idle machine (suc limit) s (λ running. halted (sym at ∙ running)) }
  where
    halted : Halted ≡ Running → ⊥
    halted h = cc

some_within : (fuel : ℕ) (machine : Machine) (limit : ℕ) (s : State) → IsMachine machine → limit + weight s.phase ≤ fuel → HasTimedRun machine limit s
some_within fuel machine zero s is enough = record { moments = []; spent = 0; timed = timed_none machine s }
some_within zero machine (suc limit) s is enough = absurd (omega (arith, enough))
some_within (suc fuel) machine (suc limit) s is enough =
    timed_from machine limit fuel s is (λ left next fits. some_within fuel machine left next is fits) enough s.phase refl

pub some_timed : (machine : Machine) (limit : ℕ) (s : State) → IsMachine machine → (moments : List Moment) × (spent : ℕ) × IsTimedRun machine limit s moments spent
some_timed machine limit s is =
    let found = some_within (limit + weight s.phase) machine limit s is (omega arith) in (found.moments, found.spent, found.timed)

-- ---- and one alone

run_front : (machine : Machine) (s : State) (moments : List Moment) (count : ℕ) → Run machine s (replicate (length moments) Step) moments → count ≤ length moments
    → Run machine s (replicate count Step) (take count moments)
run_front machine s moments zero run within = tt
run_front machine s [] (suc count) run within = absurd (omega (arith, within))
run_front machine s (moment ∷ moments) (suc count) run within = (run.0, run_front machine moment.after moments count run.1 (omega (arith, within)))

not_shorter : (machine : Machine) (limit : ℕ) (s : State) (moments others : List Moment) (spent other : ℕ) → IsMachine machine → IsTimedRun machine limit s moments spent
    → IsTimedRun machine limit s others other → length moments < length others → ⊥
not_shorter machine limit s moments others spent other is timed timed_too shorter = stops timed.over
  where
    front : moments ≡ take (length moments) others
    front = one_run machine s (replicate (length moments) Step) moments (take (length moments) others) is timed.run
        (run_front machine s others (length moments) timed_too.run (omega (arith, shorter)))

    goes_on : GoesOn machine limit s moments
    goes_on = let P : List Moment → Type 0 = λ ms. GoesOn machine limit s ms in subst P (sym front) (timed_too.least (length moments) shorter)

    stops : (limit ≤ spent) ⊎ ((last_state s moments).phase ≢ Running) → ⊥
    stops (inl reached) = absurd (omega (arith, reached, timed.time, goes_on.time))
    stops (inr idle) = idle goes_on.running

pub one_timed : (machine : Machine) (limit : ℕ) (s : State) (moments others : List Moment) (spent other : ℕ) → IsMachine machine → IsTimedRun machine limit s moments spent
    → IsTimedRun machine limit s others other → moments ≡ others
one_timed machine limit s moments others spent other is timed timed_too =
    elim (cases_lt (length moments) (length others)) [
      | inl shorter ↦ absurd (not_shorter machine limit s moments others spent other is timed timed_too shorter)
      | inr not_shorter_than ↦
          elim (cases_lt (length others) (length moments)) [
            | inl longer ↦ absurd (not_shorter machine limit s others moments other spent is timed_too timed longer)
            | inr not_longer ↦
                let same : length others ≡ length moments = omega (arith, not_shorter_than, not_longer) in
                let P : ℕ → Type 0 = λ n. Run machine s (replicate n Step) others in
                one_run machine s (replicate (length moments) Step) moments others is timed.run (subst P same timed_too.run)
          ]
    ]

pub one_time : (machine : Machine) (limit : ℕ) (s : State) (moments others : List Moment) (spent other : ℕ) → IsMachine machine → IsTimedRun machine limit s moments spent
    → IsTimedRun machine limit s others other → spent ≡ other
one_time machine limit s moments others spent other is timed timed_too =
    timed.time ∙ ap (time_of_moments machine) (one_timed machine limit s moments others spent other is timed timed_too) ∙ sym timed_too.time

pub timed_most : (machine : Machine) (limit : ℕ) (s : State) (moments : List Moment) (spent : ℕ) → IsMachine machine → IsTimedRun machine limit s moments spent → spent ≤ limit + 999
timed_most machine limit s [] spent is timed = omega (arith, timed.time)
timed_most machine limit s (moment ∷ moments) spent is timed =
    let all = moment ∷ moments in
    let count = length moments in
    let last = get_or all count moment in
    let whole : take (count + 1) all ≡ all = take_all (count + 1) all (omega arith) in
    let cut : all ≡ take count all ++ last ∷ [] = sym whole ∙ take_more all count moment (omega arith) in
    let parts = sum_by-append (λ (m : Moment). order_time machine m.report) (take count all) (last ∷ []) in
    let before = timed.least count (omega arith) in
    let most = time-most machine last.report is in
    let sum : time_of_moments machine all ≡ time_of_moments machine (take count all) + (0 + order_time machine last.report) = ap (time_of_moments machine) cut ∙ parts in
    omega (arith, timed.time, sum, before.time, most)

-- steps of which each ends where orders run take a microsecond each, at least
costly : (machine : Machine) (s : State) (moments : List Moment) → IsMachine machine → Run machine s (replicate (length moments) Step) moments
    → ((count : ℕ) → count ≤ length moments → (last_state s (take count moments)).phase ≡ Running) → length moments ≤ time_of_moments machine moments
costly machine s [] is run running = omega arith
costly machine s (moment ∷ moments) is run running =
    let rest = costly machine moment.after moments is run.1 (λ count within. running (suc count) (omega (arith, within))) in
    let ran : moment.report.ran ≡ true = elim (cases_Bool moment.report.ran) [
      | inl ran ↦ ran
      | inr idle ↦ absurd (halted (sym (halts_unless_ran machine s moment.report moment.after (running 0 (omega arith)) run.0 idle) ∙ running 1 (omega arith)))
    ] in
    omega (arith, rest, time_of_first machine moment moments, time-least machine s Step moment.report moment.after is run.0 ran)
  where
    halted : Halted ≡ Running → ⊥
    halted h = cc

pub timed_few : (machine : Machine) (limit : ℕ) (s : State) (moments : List Moment) (spent : ℕ) → IsMachine machine → IsTimedRun machine limit s moments spent → length moments ≤ limit
timed_few machine limit s [] spent is timed = omega arith
timed_few machine limit s (moment ∷ moments) spent is timed =
    let all = moment ∷ moments in
    let count = length moments in
    let front = take count all in
    let size : length front ≡ count = length-take-le count all (omega arith) in
    let before = timed.least count (omega arith) in
    let P : ℕ → Type 0 = λ n. Run machine s (replicate n Step) front in
    let run = subst P (sym size) (run_front machine s all count timed.run (omega arith)) in
    let goes_on = λ (n : ℕ) (within : n ≤ length front).
    let inside : n ≤ count = omega (arith, within, size) in
    let same : take n front ≡ take n all = take-take n count all inside in
    let there = timed.least n (omega (arith, inside)) in
    let Q : List Moment → Type 0 = λ ms. (last_state s ms).phase ≡ Running in
    subst Q (sym same) there.running in
    omega (arith, costly machine s front is run goes_on, size, before.time)

-- ---- the time of a report that names no order

pub time_unnamed : (machine : Machine) (report : Done) → ((order : Order) (indexed : Bool) (address : ℕ) → ¬ Names machine.codes report.word order indexed address) → order_time machine report ≡ 0
unfolding order_time
time_unnamed machine report none = elim (cases_Bool report.ran) [
  | inl ran ↦ rw ran (by_order (order_of machine.codes (report.word / 2 ^ 13)) (order_of-found machine.codes (report.word / 2 ^ 13)))
  | inr idle ↦ rw idle refl
]
  where
    by_order : (found : Option Order) → IfSome found (λ order. code_of machine.codes order ≡ report.word / 2 ^ 13) → option_map_or (time_of machine.times) found 0 ≡ 0
    by_order None named = refl
    by_order (Some order) named = let names = code_names machine.codes report.word order (sym named) in absurd (none order names.0 (report.word % 2 ^ 12) names.1)
