-- Acts that are played after others, and points of a run. The crates above cite:
--     plays_on        acts that are played after others
--     point_here      the point before all acts
--     point_before    a point of acts is one of these and others after them
--     point_after     a point of acts is one of others and these after them
--     lies_on_run     each point of a run is a front of it, with what the next act prints
--     wrote_on_run    a sink that took a text up to a point and a front of that took a front of the run's
use Rattle.std.proofs.Common.{◌≡◌, ℕ, List, [], ◌∷◌, ◌++◌, length, refl, sym, ap, subst, ◌∙◌, append_assoc, append-nil}
use Rattle.std.specs.Prelude.{Option, Some, None}
use Rattle.ags_benchscript.specs.declared.commands.BenchCommand.{BenchCommand}
use Rattle.ags_device.specs.Record.{DeviceRecord}
use Rattle.ags_domain.specs.declared.values.Value.{Value}
use Rattle.ags_outside.specs.Sink.{appended, appended_twice, WroteFront}
use Rattle.ags_play.specs.Guard.{Outside, IsFirstOutside}
use Rattle.ags_ports.specs.declared.events.Event.{Event}
use Rattle.ags_ports.specs.declared.machines.Machine.{Machine}
use Rattle.ags_ports.specs.Machine.{IsMachine}
use Rattle.ags_safe.specs.Certificate.{Certificate}
use Rattle.ags_drive.specs.Act.{Act, MakesStep, Pulses, RunsCycle, Feeds, FeedsInCycle, ShowsReg, ShowsCell, ShowsOut, Detaches, ShowsDevice, acts_of_script}
use Rattle.ags_drive.specs.Bench.{Bench, start_bench, position_of_number, device_at}
use Rattle.ags_drive.specs.BenchRun.{Met, OutsideStart, StopsAt, RunsOn, IsPointOfRun, IsFrontOfRun, acts_unless}
use Rattle.ags_drive.specs.Doing.{Refusal, refusal, refused_detach, bench_after, shown_text}
use Rattle.ags_drive.specs.Driven.{WroteFrontOfRun}
use Rattle.ags_drive.specs.Played.{Plays, IsPoint, next_text}
use Rattle.ags_drive.specs.Shown.{detached_line}
use Rattle.ags_drive.proofs.OneRunLemmas.{some_run}

same_head : (a c : Act) (xs ys : List Act) → a ∷ xs ≡ c ∷ ys → a ≡ c
same_head a c xs ys e = cc

none_left : (xs ys : List Act) → [] ≡ xs ++ ys → (xs ≡ []) × (ys ≡ [])
none_left [] [] e = (refl, refl)
none_left [] (y ∷ ys) e = absurd cc
none_left (x ∷ xs) ys e = absurd cc

module _ (machine : Machine) (cert : Certificate Value) where
  pub plays_on : (b mid here : Bench) (first second : List Act) (events later : List Event) (text rest : List ℕ) → Plays machine cert b first events text mid → Plays machine cert mid second later rest here
      → Plays machine cert b (first ++ second) (events ++ later) (text ++ rest) here
  plays_on b mid here [] second events later text rest p q =
      let there = subst (λ (c : Bench). Plays machine cert c second later rest here) p.2 q in
      let after = subst (λ (es : List Event). Plays machine cert b second (es ++ later) rest here) (sym p.0) there in
      subst (λ (xs : List ℕ). Plays machine cert b second (events ++ later) (xs ++ rest) here) (sym p.1) after
  plays_on b mid here (act ∷ first) second events later text rest p q = record {
    through = p.through;
    made = p.made;
    moments = p.moments;
    does = p.does;
    later = p.later ++ later;
    rest = p.rest ++ rest;
    events_are = ap (λ (es : List Event). es ++ later) p.events_are ∙ append_assoc p.made p.later later;
    text_is = ap (λ (xs : List ℕ). xs ++ rest) p.text_is ∙ append_assoc (shown_text machine b act) p.rest rest;
    goes_on = plays_on (bench_after machine b act p.moments) mid here first second p.later later p.rest rest p.goes_on q;
  }

  -- ---- points

  pub point_here : (b : Bench) (acts : List Act) → IsPoint machine cert b acts [] [] b [] acts
  point_here b acts = record { acts_are = refl; plays = (refl, refl, refl) }

  pub point_before : (b here : Bench) (acts done rest more : List Act) (events : List Event) (text : List ℕ) → IsPoint machine cert b acts events text here done rest → IsPoint machine cert b (acts ++ more) events text here done (rest ++ more)
  point_before b here acts done rest more events text p = record {
    acts_are = ap (λ (xs : List Act). xs ++ more) p.acts_are ∙ append_assoc done rest more;
    plays = p.plays;
  }

  pub point_after : (b mid here : Bench) (first acts done rest : List Act) (events later : List Event) (early text : List ℕ) → Plays machine cert b first events early mid
      → IsPoint machine cert mid acts later text here done rest → IsPoint machine cert b (first ++ acts) (events ++ later) (early ++ text) here (first ++ done) rest
  point_after b mid here first acts done rest events later early text p q = record {
    acts_are = ap (λ (xs : List Act). first ++ xs) q.acts_are ∙ sym (append_assoc first done rest);
    plays = plays_on b mid here first done events later early text p q.plays;
  }

  -- ---- a run goes on from each point

  pub run_after : (b here : Bench) (acts done rest : List Act) (events later : List Event) (text more : List ℕ) (now : List DeviceRecord) (met : Met) → IsPoint machine cert b acts events text here done rest
      → RunsOn machine cert here rest later more now met → RunsOn machine cert b acts (events ++ later) (text ++ more) now met
  run_after b here acts done rest events later text more now met p r = record {
    here = r.here;
    done = done ++ r.done;
    rest = r.rest;
    point = record {
      acts_are = p.acts_are ∙ ap (λ (xs : List Act). done ++ xs) r.point.acts_are ∙ sym (append_assoc done r.done r.rest);
      plays = plays_on b here r.here done r.done events later text more p.plays r.point.plays;
    };
    stops = r.stops;
  }

  silent_detach : (line number : ℕ) (o : Option DeviceRecord) (why : Refusal) → refused_detach line number o ≡ Some why → detached_line number o ≡ []
  silent_detach line number None why e = refl
  silent_detach line number (Some d) why e = absurd cc

  -- what is refused prints nothing
  refused_silent : (b : Bench) (act : Act) (why : Refusal) → refusal machine cert b act ≡ Some why → shown_text machine b act ≡ []
  refused_silent b MakesStep why e = refl
  refused_silent b Pulses why e = refl
  refused_silent b RunsCycle why e = refl
  refused_silent b (Feeds line number) why e = refl
  refused_silent b (FeedsInCycle position) why e = refl
  refused_silent b ShowsReg why e = absurd cc
  refused_silent b (ShowsCell address) why e = absurd cc
  refused_silent b (ShowsOut address) why e = absurd cc
  refused_silent b (Detaches line number) why e = silent_detach line number (device_at b.devices (position_of_number number)) why e
  refused_silent b (ShowsDevice position) why e = absurd cc

  abbrev BeginsWith : (text front : List ℕ) → Type 0
  BeginsWith text front = (more : List ℕ) × (text ≡ front ++ more)

  begins_next : (here there : Bench) (act : Act) (acts done rest : List Act) (events : List Event) (text : List ℕ) (now : List DeviceRecord) (met : Met) → act ∷ acts ≡ done ++ rest
      → Plays machine cert here done events text there → StopsAt machine cert there rest now met → BeginsWith text (shown_text machine here act)
  begins_next here there act acts [] rest events text now met same p stops =
      let at = subst (λ (xs : List Act). StopsAt machine cert there xs now met) (sym same) stops in
      let why : refusal machine cert here act ≡ Some at.0 = ap (λ k. refusal machine cert k act) (sym p.2) ∙ at.1 in
      ([], p.1 ∙ sym (append-nil (shown_text machine here act) ∙ refused_silent here act at.0 why))
  begins_next here there act acts (first ∷ done) rest events text now met same p stops =
      (p.rest, p.text_is ∙ ap (λ a. shown_text machine here a ++ p.rest) (sym (same_head act first acts (done ++ rest) same)))

  -- the text of a run begins with what its first act prints
  begins_with_next : (here : Bench) (rest : List Act) (events : List Event) (text : List ℕ) (now : List DeviceRecord) (met : Met) → RunsOn machine cert here rest events text now met
      → BeginsWith text (next_text machine here rest)
  begins_with_next here [] events text now met r = (text, refl)
  begins_with_next here (act ∷ acts) events text now met r = begins_next here r.here act acts r.done r.rest events text now met r.point.acts_are r.point.plays r.stops

-- ---- the run of a script

module _ (machine : Machine) (image : List (Option ℕ)) (cert : Certificate Value) (devices : List DeviceRecord) (lines : List (ℕ × BenchCommand)) (h : IsMachine machine) where
  abbrev start : Bench
  start = start_bench machine image cert devices

  abbrev acts : List Act
  acts = acts_of_script (length devices) lines

  lies_unless : (found : Option Outside) (events : List Event) (text : List ℕ) (here : Bench) (done rest : List Act) → IsFirstOutside machine image cert start.core found
      → IsPoint machine cert start (acts_unless found acts) events text here done rest → IsFrontOfRun machine image cert devices lines events (text ++ next_text machine here rest)
  lies_unless None events text here done rest tested p =
      let (later, more, now, met, run) = some_run machine cert h here rest in
      let begins = begins_with_next machine cert here rest later more now met run in
      record {
        all = events ++ later;
        whole = text ++ more;
        last = now;
        met = met;
        runs = record { found = None; tested = tested; runs = run_after machine cert start here acts done rest events later text more now met p run };
        later = later;
        more = begins.0;
        events_are = refl;
        text_is = ap (λ (xs : List ℕ). text ++ xs) begins.1 ∙ sym (append_assoc text (next_text machine here rest) begins.0);
      }
  lies_unless (Some outside) events text here done rest tested p =
      let none = none_left done rest p.acts_are in
      let q = subst (λ (xs : List Act). Plays machine cert start xs events text here) none.0 p.plays in
      record {
        all = [];
        whole = [];
        last = devices;
        met = OutsideStart outside;
        runs = record { found = Some outside; tested = tested; runs = (refl, refl, refl, refl) };
        later = [];
        more = [];
        events_are = sym (append-nil events ∙ q.0);
        text_is = sym (append-nil (text ++ next_text machine here rest) ∙ ap (λ (xs : List Act). text ++ next_text machine here xs) none.1 ∙ append-nil text ∙ q.1);
      }

  pub lies_on_run : (events : List Event) (text : List ℕ) (here : Bench) (done rest : List Act) → IsPointOfRun machine image cert devices lines events text here done rest
      → IsFrontOfRun machine image cert devices lines events (text ++ next_text machine here rest)
  lies_on_run events text here done rest p = lies_unless p.found events text here done rest p.tested p.point

  wrote_whole : (old new : Option (List ℕ)) (text next more whole : List ℕ) → WroteFront (appended old text) new next → whole ≡ (text ++ next) ++ more → WroteFront old new whole
  wrote_whole old new text next more whole front same =
      let done = front.wrote.done in
      record {
        rest = front.rest ++ more;
        wrote = record {
          done = text ++ done;
          told = front.wrote.told ∙ appended_twice old text done;
          whole =
              append_assoc text done (front.rest ++ more)
              ∙ ap (λ (xs : List ℕ). text ++ xs) (sym (append_assoc done front.rest more) ∙ ap (λ (xs : List ℕ). xs ++ more) front.wrote.whole)
              ∙ sym (append_assoc text next more) ∙ sym same;
        };
      }

  pub wrote_on_run : (events : List Event) (text : List ℕ) (here : Bench) (done rest : List Act) (old new : Option (List ℕ)) → IsPointOfRun machine image cert devices lines events text here done rest
      → WroteFront (appended old text) new (next_text machine here rest) → WroteFrontOfRun machine image cert devices lines old new
  wrote_on_run events text here done rest old new p wrote =
      let front = lies_on_run events text here done rest p in
      record {
        events = front.all;
        text = front.whole;
        last = front.last;
        met = front.met;
        runs = front.runs;
        front = wrote_whole old new text (next_text machine here rest) front.more front.whole wrote front.text_is;
      }
