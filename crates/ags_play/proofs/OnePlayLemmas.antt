-- From each bench the acts have one play. The crates above cite:
--     some_play, one_play    there is one, and two are the same
use Rattle.std.proofs.Common.{◌≡◌, ℕ, List, [], ◌∷◌, ◌++◌, length, replicate, refl, sym, ap, subst, ◌∙◌}
use Rattle.std.specs.Prelude.{Option, Some, None}
use Rattle.ags_domain.specs.declared.values.Value.{Value}
use Rattle.ags_ports.specs.declared.events.Event.{Event}
use Rattle.ags_ports.specs.declared.events.Event.TheVariants as event
use Rattle.ags_ports.specs.declared.machines.Machine.{Machine}
use Rattle.ags_ports.specs.Machine.{IsMachine}
use Rattle.ags_ports.specs.Run.{Moment, Run}
use Rattle.ags_ports.proofs.RunLemmas.{some_run, one_run}
use Rattle.ags_safe.specs.Certificate.{Certificate}
use Rattle.ags_timed.proofs.TimedLemmas.{some_timed, one_timed}
use Rattle.ags_play.specs.Act.{Act, MakesSteps, Pulses, Puts, Presses, Feeds, FeedsWhereZero, RunsCycle, ShowsReg, ShowsCell, ShowsOut, ShowsDeda}
use Rattle.ags_play.specs.Bench.{Bench}
use Rattle.ags_play.specs.Doing.{PutWord, Does, Makes, put_by, put_events, bench_after, shown_text, time_left}
use Rattle.ags_play.specs.Guard.{stopped_by}
use Rattle.ags_play.specs.Played.{Plays, PlaysOne, PlaysFirst}

-- ---- one act

-- an act can be made on a bench
abbrev SomeDoing : Machine → Bench → Act → Type 0
SomeDoing machine b act = (events : List Event) × (moments : List Moment) × Does machine b act events moments

made_by : (machine : Machine) (b : Bench) (act : Act) (events : List Event) → ((moments : List Moment) → Makes machine b act events moments) → SomeDoing machine b act
made_by machine b act events makes =
    let found = some_run machine b.core events in
    (events, found.0, record { makes = makes found.0; run = found.1 })

some_doing : (machine : Machine) (b : Bench) (act : Act) → IsMachine machine → SomeDoing machine b act
some_doing machine b RunsCycle h =
    let found = some_timed machine (time_left b.carry) b.core h in (
      replicate (length found.0) event.Step,
      found.0,
      record { makes = record { spent = found.1; timed = found.2; steps = refl }; run = found.2.run },
    )
some_doing machine b (MakesSteps count) h = made_by machine b (MakesSteps count) (replicate count event.Step) (λ moments. refl)
some_doing machine b Pulses h = made_by machine b Pulses (event.Pulse ∷ []) (λ moments. refl)
some_doing machine b (Puts address word) h = made_by machine b (Puts address word) (put_events (put_by machine b (Puts address word))) (λ moments. refl)
some_doing machine b (Presses key) h = made_by machine b (Presses key) (put_events (put_by machine b (Presses key))) (λ moments. refl)
some_doing machine b Feeds h = made_by machine b Feeds (put_events (put_by machine b Feeds)) (λ moments. refl)
some_doing machine b FeedsWhereZero h = made_by machine b FeedsWhereZero (put_events (put_by machine b FeedsWhereZero)) (λ moments. refl)
some_doing machine b ShowsReg h = made_by machine b ShowsReg (put_events (put_by machine b ShowsReg)) (λ moments. refl)
some_doing machine b (ShowsCell address) h = made_by machine b (ShowsCell address) (put_events (put_by machine b (ShowsCell address))) (λ moments. refl)
some_doing machine b (ShowsOut address) h = made_by machine b (ShowsOut address) (put_events (put_by machine b (ShowsOut address))) (λ moments. refl)
some_doing machine b ShowsDeda h = made_by machine b ShowsDeda (put_events (put_by machine b ShowsDeda)) (λ moments. refl)

-- an act makes one list of events
one_made : (machine : Machine) (b : Bench) (act : Act) (events others : List Event) (moments further : List Moment) → IsMachine machine
    → Makes machine b act events moments → Makes machine b act others further → events ≡ others
one_made machine b RunsCycle events others moments further h p r =
    let same = one_timed machine (time_left b.carry) b.core moments further p.spent r.spent h p.timed r.timed in
    p.steps ∙ ap (λ (ms : List Moment). replicate (length ms) event.Step) same ∙ sym r.steps
one_made machine b (MakesSteps count) events others moments further h p r = p ∙ sym r
one_made machine b Pulses events others moments further h p r = p ∙ sym r
one_made machine b (Puts address word) events others moments further h p r = p ∙ sym r
one_made machine b (Presses key) events others moments further h p r = p ∙ sym r
one_made machine b Feeds events others moments further h p r = p ∙ sym r
one_made machine b FeedsWhereZero events others moments further h p r = p ∙ sym r
one_made machine b ShowsReg events others moments further h p r = p ∙ sym r
one_made machine b (ShowsCell address) events others moments further h p r = p ∙ sym r
one_made machine b (ShowsOut address) events others moments further h p r = p ∙ sym r
one_made machine b ShowsDeda events others moments further h p r = p ∙ sym r

one_moments : (machine : Machine) (b : Bench) (act : Act) (events others : List Event) (moments further : List Moment) → IsMachine machine
    → Does machine b act events moments → Does machine b act others further → moments ≡ further
one_moments machine b act events others moments further h p r =
    let same = one_made machine b act events others moments further h p.makes r.makes in
    one_run machine b.core events moments further h p.run (subst (λ (es : List Event). Run machine b.core es further) (sym same) r.run)

-- ---- a play

-- there are events and a text with what is left and met
abbrev SomePlay : (List Event → List ℕ → Bench → Option PutWord → Type 0) → Type 0
SomePlay Played = (events : List Event) × (text : List ℕ) × (after : Bench) × (met : Option PutWord) × Played events text after met

some_one : (machine : Machine) (b : Bench) (act : Act) (stopped : Option PutWord) (GoesOn : Bench → List Event → List ℕ → Bench → Option PutWord → Type 0) → IsMachine machine
    → ((between : Bench) → SomePlay (GoesOn between)) → SomePlay (λ events text after met. PlaysOne machine b act stopped (λ between later rest. GoesOn between later rest after met) events text after met)
some_one machine b act (Some put) GoesOn h on = ([], [], b, Some put, (refl, refl, refl, refl))
some_one machine b act None GoesOn h on =
    let first = some_doing machine b act h in
    let rest = on (bench_after machine b act first.1) in (
      first.0 ++ rest.0,
      shown_text machine b act ++ rest.1,
      rest.2,
      rest.3,
      record {
        made = first.0;
        moments = first.1;
        does = first.2;
        later = rest.0;
        rest = rest.1;
        events_are = refl;
        text_is = refl;
        goes_on = rest.4;
      },
    )

pub some_play : (machine : Machine) (guard : Option (Certificate Value)) (b : Bench) (acts : List Act) → IsMachine machine
    → (events : List Event) × (text : List ℕ) × (after : Bench) × (met : Option PutWord) × Plays machine guard b acts events text after met
some_play machine guard b [] h = ([], [], b, None, (refl, refl, refl, refl))
some_play machine guard b (act ∷ acts) h =
    some_one machine b act (stopped_by machine guard (put_by machine b act)) (λ between later rest after met. Plays machine guard between acts later rest after met) h
    (λ between. some_play machine guard between acts h)

-- two plays make the same events, print the same text, leave the same bench and meet the same
abbrev AreAlike : (events others : List Event) (text other : List ℕ) (after left : Bench) (met stopped : Option PutWord) → Type 0
AreAlike events others text other after left met stopped = (events ≡ others) × (text ≡ other) × (after ≡ left) × (met ≡ stopped)

joined : {A : Type 0} (xs ys zs ws : List A) → xs ≡ ys → zs ≡ ws → xs ++ zs ≡ ys ++ ws
joined {A} xs ys zs ws p r = rw (p, r) refl

module _ (machine : Machine) (h : IsMachine machine) (after left : Bench) (met stopped : Option PutWord) where
  -- what goes on from a bench goes on in one way
  abbrev GoOnAlike : (one other : Bench → List Event → List ℕ → Type 0) → Type 0
  GoOnAlike one other = (between : Bench) (events others : List Event) (text rest : List ℕ) → one between events text → other between others rest
      → AreAlike events others text rest after left met stopped

  one_first : (b : Bench) (act : Act) (GoesOn Another : Bench → List Event → List ℕ → Type 0) (events others : List Event) (text other : List ℕ) → GoOnAlike GoesOn Another
      → PlaysFirst machine b act GoesOn events text → PlaysFirst machine b act Another others other → AreAlike events others text other after left met stopped
  one_first b act GoesOn Another events others text other on p r =
      let made = one_made machine b act p.made r.made p.moments r.moments h p.does.makes r.does.makes in
      let moments = one_moments machine b act p.made r.made p.moments r.moments h p.does r.does in
      let goes_on = subst (λ (ms : List Moment). Another (bench_after machine b act ms) r.later r.rest) (sym moments) r.goes_on in
      let rest = on (bench_after machine b act p.moments) p.later r.later p.rest r.rest p.goes_on goes_on in
      let line = shown_text machine b act in (
        p.events_are ∙ joined p.made r.made p.later r.later made rest.0 ∙ sym r.events_are,
        p.text_is ∙ joined line line p.rest r.rest refl rest.1 ∙ sym r.text_is,
        rest.2,
        rest.3,
      )

  one_one : (b : Bench) (act : Act) (put : Option PutWord) (GoesOn Another : Bench → List Event → List ℕ → Type 0) (events others : List Event) (text other : List ℕ) → GoOnAlike GoesOn Another
      → PlaysOne machine b act put GoesOn events text after met → PlaysOne machine b act put Another others other left stopped → AreAlike events others text other after left met stopped
  one_one b act (Some put) GoesOn Another events others text other on p r = (p.0 ∙ sym r.0, p.1 ∙ sym r.1, p.2 ∙ sym r.2, p.3 ∙ sym r.3)
  one_one b act None GoesOn Another events others text other on p r = one_first b act GoesOn Another events others text other on p r

  pub one_play : (guard : Option (Certificate Value)) (b : Bench) (acts : List Act) (events others : List Event) (text other : List ℕ)
      → Plays machine guard b acts events text after met → Plays machine guard b acts others other left stopped → (events ≡ others) × (text ≡ other) × (after ≡ left) × (met ≡ stopped)
  one_play guard b [] events others text other p r = (p.0 ∙ sym r.0, p.1 ∙ sym r.1, p.2 ∙ sym r.2, p.3 ∙ sym r.3)
  one_play guard b (act ∷ acts) events others text other p r =
      one_one b act (stopped_by machine guard (put_by machine b act)) (λ between later rest. Plays machine guard between acts later rest after met)
      (λ between later rest. Plays machine guard between acts later rest left stopped) events others text other
      (λ between later further rest rests q s. one_play guard between acts later further rest rests q s) p r
