-- Acts have one run from a bench.
use Rattle.std.proofs.Common.{◌≡◌, ℕ, List, [], ◌∷◌, ◌++◌, length, replicate, refl, sym, ap, subst, ◌∙◌}
use Rattle.std.specs.Prelude.{Option, Some, None}
use Rattle.ags_domain.specs.declared.values.Value.{Value}
use Rattle.ags_device.specs.Record.{DeviceRecord}
use Rattle.ags_play.specs.Doing.{put_events, time_left}
use Rattle.ags_ports.specs.declared.events.Event.{Event}
use Rattle.ags_ports.specs.declared.events.Event.TheVariants as event
use Rattle.ags_ports.specs.declared.machines.Machine.{Machine}
use Rattle.ags_ports.specs.Machine.{IsMachine}
use Rattle.ags_ports.specs.Run.{Moment, Run}
use Rattle.ags_ports.proofs.RunLemmas as runs
use Rattle.ags_safe.specs.Certificate.{Certificate}
use Rattle.ags_timed.proofs.TimedLemmas.{some_timed, one_timed}
use Rattle.ags_drive.specs.Bench.{Bench}
use Rattle.ags_drive.specs.Act.{Act, MakesStep, Pulses, RunsCycle, Feeds, FeedsInCycle, ShowsReg, ShowsCell, ShowsOut, Detaches, ShowsDevice}
use Rattle.ags_drive.specs.Doing.{Does, Makes, Refusal, refusal, put_by, bench_after, devices_where_refused, shown_text}
use Rattle.ags_drive.specs.Played.{Plays, PlaysFirst}
use Rattle.ags_drive.specs.BenchRun.{Met, Nothing, RefusedAct, StopsAt, RunsOn}

-- ---- one act

abbrev SomeDoing : Machine → Bench → Act → Type 0
SomeDoing machine b act = (events : List Event) × (moments : List Moment) × Does machine b act events moments

made_by : (machine : Machine) (b : Bench) (act : Act) (events : List Event) → ((moments : List Moment) → Makes machine b act events moments) → SomeDoing machine b act
made_by machine b act events makes =
    let found = runs.some_run machine b.core events in
    (events, found.0, record { makes = makes found.0; run = found.1 })

some_doing : (machine : Machine) (b : Bench) (act : Act) → IsMachine machine → SomeDoing machine b act
some_doing machine b RunsCycle h =
    let found = some_timed machine (time_left b.carry) b.core h in (
      replicate (length found.0) event.Step,
      found.0,
      record { makes = record { spent = found.1; timed = found.2; steps = refl }; run = found.2.run },
    )
some_doing machine b MakesStep h = made_by machine b MakesStep (event.Step ∷ []) (λ moments. refl)
some_doing machine b Pulses h = made_by machine b Pulses (event.Pulse ∷ []) (λ moments. refl)
some_doing machine b (Feeds line number) h = made_by machine b (Feeds line number) (put_events (put_by machine b (Feeds line number))) (λ moments. refl)
some_doing machine b (FeedsInCycle position) h =
    made_by machine b (FeedsInCycle position) (put_events (put_by machine b (FeedsInCycle position))) (λ moments. refl)
some_doing machine b ShowsReg h = made_by machine b ShowsReg (put_events (put_by machine b ShowsReg)) (λ moments. refl)
some_doing machine b (ShowsCell address) h = made_by machine b (ShowsCell address) (put_events (put_by machine b (ShowsCell address))) (λ moments. refl)
some_doing machine b (ShowsOut address) h = made_by machine b (ShowsOut address) (put_events (put_by machine b (ShowsOut address))) (λ moments. refl)
some_doing machine b (Detaches line number) h = made_by machine b (Detaches line number) (put_events (put_by machine b (Detaches line number))) (λ moments. refl)
some_doing machine b (ShowsDevice position) h =
    made_by machine b (ShowsDevice position) (put_events (put_by machine b (ShowsDevice position))) (λ moments. refl)

one_made : (machine : Machine) (b : Bench) (act : Act) (events others : List Event) (moments further : List Moment) → IsMachine machine
    → Makes machine b act events moments → Makes machine b act others further → events ≡ others
one_made machine b RunsCycle events others moments further h p r =
    let same = one_timed machine (time_left b.carry) b.core moments further p.spent r.spent h p.timed r.timed in
    p.steps ∙ ap (λ (ms : List Moment). replicate (length ms) event.Step) same ∙ sym r.steps
one_made machine b MakesStep events others moments further h p r = p ∙ sym r
one_made machine b Pulses events others moments further h p r = p ∙ sym r
one_made machine b (Feeds line number) events others moments further h p r = p ∙ sym r
one_made machine b (FeedsInCycle position) events others moments further h p r = p ∙ sym r
one_made machine b ShowsReg events others moments further h p r = p ∙ sym r
one_made machine b (ShowsCell address) events others moments further h p r = p ∙ sym r
one_made machine b (ShowsOut address) events others moments further h p r = p ∙ sym r
one_made machine b (Detaches line number) events others moments further h p r = p ∙ sym r
one_made machine b (ShowsDevice position) events others moments further h p r = p ∙ sym r

one_moments : (machine : Machine) (b : Bench) (act : Act) (events others : List Event) (moments further : List Moment) → IsMachine machine
    → Does machine b act events moments → Does machine b act others further → moments ≡ further
one_moments machine b act events others moments further h p r =
    runs.one_run machine b.core events moments further h p.run (subst (λ (es : List Event). Run machine b.core es further) (sym (one_made machine b act events others moments further h p.makes r.makes)) r.run)

some_once : (o : Option Refusal) (why other : Refusal) → o ≡ Some why → o ≡ Some other → why ≡ other
some_once (Some w) why other e f = first w why e ∙ sym (first w other f)
  where
    first : (w why : Refusal) → Some w ≡ Some why → why ≡ w
    first w why e = cc
some_once None why other e f = cc

not_both : (o : Option Refusal) (why : Refusal) → o ≡ Some why → o ≡ None → ⊥
not_both (Some w) why e f = cc
not_both None why e f = cc

same_head : (a c : Act) (xs ys : List Act) → a ∷ xs ≡ c ∷ ys → a ≡ c
same_head a c xs ys e = cc

same_tail : (a c : Act) (xs ys : List Act) → a ∷ xs ≡ c ∷ ys → xs ≡ ys
same_tail a c xs ys e = cc

module _ (machine : Machine) (cert : Certificate Value) (h : IsMachine machine) where
  ends_once : (here : Bench) (rest : List Act) (now then : List DeviceRecord) (met what : Met) → StopsAt machine cert here rest now met → StopsAt machine cert here rest then what → (now ≡ then) × (met ≡ what)
  ends_once here [] now then met what p q = (p.0 ∙ sym q.0, p.1 ∙ sym q.1)
  ends_once here (act ∷ rest) now then met what p q =
      let same = some_once (refusal machine cert here act) p.0 q.0 p.1 q.1 in
      (p.2 ∙ ap (λ w. devices_where_refused machine here act w) same ∙ sym q.2, p.3 ∙ ap (λ w. RefusedAct w) same ∙ sym q.3)

  -- a refused act isn't played
  refused_not_played : (b here : Bench) (act : Act) (rest others : List Act) (now : List DeviceRecord) (met : Met) → here ≡ b → rest ≡ act ∷ others → StopsAt machine cert here rest now met → refusal machine cert b act ≡ None → ⊥
  refused_not_played b here act rest others now met at are ends through =
      let there = subst (λ (acts : List Act). StopsAt machine cert here acts now met) are ends in
      not_both (refusal machine cert here act) there.0 there.1 (ap (λ k. refusal machine cert k act) at ∙ through)

  one_run : (b here hence : Bench) (done rest made left : List Act) (events others : List Event) (text other : List ℕ) (now then : List DeviceRecord) (met what : Met) → done ++ rest ≡ made ++ left
      → Plays machine cert b done events text here → StopsAt machine cert here rest now met → Plays machine cert b made others other hence → StopsAt machine cert hence left then what
      → (events ≡ others) × (text ≡ other) × (now ≡ then) × (met ≡ what)
  one_run b here hence [] rest [] left events others text other now then met what same p e q f =
      let there = subst (λ (k : Bench). StopsAt machine cert k left then what) (q.2 ∙ sym p.2) f in
      let ends = ends_once here rest now then met what e (subst (λ (acts : List Act). StopsAt machine cert here acts then what) (sym same) there) in
      (p.0 ∙ sym q.0, p.1 ∙ sym q.1, ends.0, ends.1)
  one_run b here hence [] rest (act ∷ made) left events others text other now then met what same p e q f =
      absurd (refused_not_played b here act rest (made ++ left) now met p.2 same e q.through)
  one_run b here hence (act ∷ done) rest [] left events others text other now then met what same p e q f =
      absurd (refused_not_played b hence act left (done ++ rest) then what q.2 (sym same) f p.through)
  one_run b here hence (act ∷ done) rest (second ∷ made) left events others text other now then met what same p e q f =
      let head : second ≡ act = sym (same_head act second (done ++ rest) (made ++ left) same) in
      let r : PlaysFirst machine cert b act (λ mid later left_text. Plays machine cert mid made later left_text hence) others other =
      subst (λ (a : Act). PlaysFirst machine cert b a (λ mid later left_text. Plays machine cert mid made later left_text hence) others other) head q in
      let moments = one_moments machine b act p.made r.made p.moments r.moments h p.does r.does in
      let there = subst (λ (ms : List Moment). Plays machine cert (bench_after machine b act ms) made r.later r.rest hence) (sym moments) r.goes_on in
      let further = one_run (bench_after machine b act p.moments) here hence done rest made left p.later r.later p.rest r.rest now then met what (same_tail act second (done ++ rest) (made ++ left) same) p.goes_on e there f in (
        p.events_are ∙ ap (λ es. es ++ p.later) (one_made machine b act p.made r.made p.moments r.moments h p.does.makes r.does.makes) ∙ ap (λ es. r.made ++ es) further.0 ∙ sym r.events_are,
        p.text_is ∙ ap (λ ts. shown_text machine b act ++ ts) further.1 ∙ sym r.text_is,
        further.2,
        further.3,
      )

  pub runs_once : (b : Bench) (acts : List Act) (events others : List Event) (text other : List ℕ) (now then : List DeviceRecord) (met what : Met) → RunsOn machine cert b acts events text now met → RunsOn machine cert b acts others other then what
      → (events ≡ others) × (text ≡ other) × (now ≡ then) × (met ≡ what)
  runs_once b acts events others text other now then met what p q =
      one_run b p.here q.here p.done p.rest q.done q.rest events others text other now then met what (sym p.point.acts_are ∙ q.point.acts_are) p.point.plays p.stops q.point.plays q.stops

  pub some_run : (b : Bench) (acts : List Act) → (events : List Event) × (text : List ℕ) × (now : List DeviceRecord) × (met : Met) × RunsOn machine cert b acts events text now met
  some_run b [] = ([], [], b.devices, Nothing, record { here = b; done = []; rest = []; point = record { acts_are = refl; plays = (refl, refl, refl) }; stops = (refl, refl) })
  some_run b (act ∷ acts) =
      let found = some_doing machine b act h in
      by_refusal found.0 found.1 found.2 (refusal machine cert b act) refl (some_run (bench_after machine b act found.1) acts)
    where
      by_refusal : (made : List Event) (moments : List Moment) → Does machine b act made moments → (o : Option Refusal) → refusal machine cert b act ≡ o
          → ((events : List Event) × (text : List ℕ) × (now : List DeviceRecord) × (met : Met) × RunsOn machine cert (bench_after machine b act moments) acts events text now met)
          → (events : List Event) × (text : List ℕ) × (now : List DeviceRecord) × (met : Met) × RunsOn machine cert b (act ∷ acts) events text now met
      by_refusal made moments does (Some why) e later =
          ([], [], devices_where_refused machine b act why, RefusedAct why, record { here = b; done = []; rest = act ∷ acts; point = record { acts_are = refl; plays = (refl, refl, refl) }; stops = (why, e, refl, refl) })
      by_refusal made moments does None e (events, text, now, met, run) = (
        made ++ events,
        shown_text machine b act ++ text,
        now,
        met,
        record {
          here = run.here;
          done = act ∷ run.done;
          rest = run.rest;
          point = record {
            acts_are = ap (λ xs. act ∷ xs) run.point.acts_are;
            plays = record { through = e; made = made; moments = moments; does = does; later = events; rest = text; events_are = refl; text_is = refl; goes_on = run.point.plays };
          };
          stops = run.stops;
        },
      )
