-- Plays that are put together, and plays that are cut. The crates above cite:
--     plays_on          acts after acts none of whose words was stopped
--     plays_stop        acts after acts of which one was stopped
--     cut               a play that is cut
--     cut_along         and a run of all its events
--     acts_of-append    the acts of commands after commands
use Rattle.std.proofs.Common.{◌≡◌, ℕ, List, [], ◌∷◌, ◌++◌, refl, sym, ap, subst, ◌∙◌, append_assoc}
use Rattle.std.specs.Prelude.{Option, Some, None}
use Rattle.std.proofs.lemmas.Grind.{flat_map-append}
use Rattle.ags_domain.specs.declared.values.Value.{Value}
use Rattle.ags_ports.specs.declared.events.Event.{Event}
use Rattle.ags_ports.specs.declared.machines.Machine.{Machine}
use Rattle.ags_ports.specs.Machine.{IsMachine}
use Rattle.ags_ports.specs.State.{State}
use Rattle.ags_ports.specs.Run.{Moment, Run, RunsTo}
use Rattle.ags_ports.proofs.RunLemmas.{run-append, last-append, one_run}
use Rattle.ags_safe.specs.Certificate.{Certificate}
use Rattle.ags_script.specs.declared.commands.Command.{Command}
use Rattle.ags_play.specs.Act.{Act, acts_of, acts_of_command}
use Rattle.ags_play.specs.Bench.{Bench}
use Rattle.ags_play.specs.Cut.{PlaysInTurn, GoesOnFrom}
use Rattle.ags_play.specs.Doing.{PutWord, put_by, bench_after, shown_text}
use Rattle.ags_play.specs.Guard.{stopped_by}
use Rattle.ags_play.specs.Played.{Plays, PlaysOne, PlaysFirst}
use Rattle.ags_play.proofs.PlayLemmas.{play_runs}

pub acts_of-append : (xs ys : List Command) → acts_of (xs ++ ys) ≡ acts_of xs ++ acts_of ys
acts_of-append xs ys = flat_map-append acts_of_command xs ys

module _ (machine : Machine) (guard : Option (Certificate Value)) where
  -- ---- put together

  one_on : (b mid after : Bench) (act : Act) (stopped : Option PutWord) (GoesOn Further : Bench → List Event → List ℕ → Type 0) (events later : List Event) (text rest : List ℕ) (met : Option PutWord)
      → ((between : Bench) (es : List Event) (xs : List ℕ) → GoesOn between es xs → Further between (es ++ later) (xs ++ rest))
      → PlaysOne machine b act stopped GoesOn events text mid None → PlaysOne machine b act stopped Further (events ++ later) (text ++ rest) after met
  one_on b mid after act (Some put) GoesOn Further events later text rest met on p = absurd (some_met p.3)
    where
      some_met : ◌≡◌ {A = Option PutWord} None (Some put) → ⊥
      some_met same = cc
  one_on b mid after act None GoesOn Further events later text rest met on p =
      let line = shown_text machine b act in
      record {
        made = p.made;
        moments = p.moments;
        does = p.does;
        later = p.later ++ later;
        rest = p.rest ++ rest;
        events_are = ap (λ (es : List Event). es ++ later) p.events_are ∙ append_assoc p.made p.later later;
        text_is = ap (λ (xs : List ℕ). xs ++ rest) p.text_is ∙ append_assoc line p.rest rest;
        goes_on = on (bench_after machine b act p.moments) p.later p.rest p.goes_on;
      }

  none_on : (b mid after : Bench) (second : List Act) (events later : List Event) (text rest : List ℕ) (met : Option PutWord) → events ≡ [] → text ≡ [] → mid ≡ b
      → Plays machine guard mid second later rest after met → Plays machine guard b second (events ++ later) (text ++ rest) after met
  none_on b mid after second events later text rest met none empty same p =
      let there = subst (λ (c : Bench). Plays machine guard c second later rest after met) same p in
      let behind = subst (λ (es : List Event). Plays machine guard b second (es ++ later) rest after met) (sym none) there in
      subst (λ (xs : List ℕ). Plays machine guard b second (events ++ later) (xs ++ rest) after met) (sym empty) behind

  pub plays_on : (b mid after : Bench) (first second : List Act) (events later : List Event) (text rest : List ℕ) (met : Option PutWord)
      → Plays machine guard b first events text mid None → Plays machine guard mid second later rest after met
      → Plays machine guard b (first ++ second) (events ++ later) (text ++ rest) after met
  plays_on b mid after [] second events later text rest met p q = none_on b mid after second events later text rest met p.0 p.1 p.2 q
  plays_on b mid after (act ∷ first) second events later text rest met p q =
      one_on b mid after act (stopped_by machine guard (put_by machine b act)) (λ between es xs. Plays machine guard between first es xs mid None)
      (λ between es xs. Plays machine guard between (first ++ second) es xs after met) events later text rest met
      (λ between es xs goes_on. plays_on between mid after first second es later xs rest met goes_on q) p

  one_stop : (b after : Bench) (act : Act) (stopped : Option PutWord) (GoesOn Further : Bench → List Event → List ℕ → Type 0) (events : List Event) (text : List ℕ) (met : Option PutWord)
      → ((between : Bench) (es : List Event) (xs : List ℕ) → GoesOn between es xs → Further between es xs)
      → PlaysOne machine b act stopped GoesOn events text after met → PlaysOne machine b act stopped Further events text after met
  one_stop b after act (Some put) GoesOn Further events text met on p = p
  one_stop b after act None GoesOn Further events text met on p = record {
    made = p.made;
    moments = p.moments;
    does = p.does;
    later = p.later;
    rest = p.rest;
    events_are = p.events_are;
    text_is = p.text_is;
    goes_on = on (bench_after machine b act p.moments) p.later p.rest p.goes_on;
  }

  pub plays_stop : (b after : Bench) (first second : List Act) (events : List Event) (text : List ℕ) (put : PutWord)
      → Plays machine guard b first events text after (Some put) → Plays machine guard b (first ++ second) events text after (Some put)
  plays_stop b after [] second events text put p = absurd (some_met p.3)
    where
      some_met : ◌≡◌ {A = Option PutWord} (Some put) None → ⊥
      some_met same = cc
  plays_stop b after (act ∷ first) second events text put p =
      one_stop b after act (stopped_by machine guard (put_by machine b act)) (λ between es xs. Plays machine guard between first es xs after (Some put))
      (λ between es xs. Plays machine guard between (first ++ second) es xs after (Some put)) events text (Some put)
      (λ between es xs goes_on. plays_stop between after first second es xs put goes_on) p

  -- ---- cut

  module _ (after : Bench) (second : List Act) (met : Option PutWord) where
    abbrev CutsFrom : Bench → List Act → List Event → List ℕ → Type 0
    CutsFrom b first events text = PlaysInTurn machine guard b first second events text after met

    -- what goes on from each bench is cut before the same acts
    abbrev AreCut : List Act → Type 0
    AreCut first = (between : Bench) (events : List Event) (text : List ℕ) → Plays machine guard between (first ++ second) events text after met → CutsFrom between first events text

    cut_one : (b : Bench) (act : Act) (first : List Act) (events : List Event) (text : List ℕ) (stopped : Option PutWord)
        → stopped_by machine guard (put_by machine b act) ≡ stopped → AreCut first
        → PlaysOne machine b act stopped (λ between es xs. Plays machine guard between (first ++ second) es xs after met) events text after met → CutsFrom b (act ∷ first) events text
    cut_one b act first events text (Some put) same on p = record {
      early = [];
      moments = [];
      shown = [];
      mid = b;
      stopped = Some put;
      later = events;
      rest = text;
      events_are = refl;
      text_is = refl;
      plays = subst (λ (s : Option PutWord). PlaysOne machine b act s (λ between es xs. Plays machine guard between first es xs b (Some put)) [] [] b (Some put)) (sym same) (refl, refl, refl, refl);
      run = tt;
      ends = refl;
      goes_on = ((p.0, p.1, p.2, refl), p.3);
    }
    cut_one b act first events text None same on p =
        let cut = on (bench_after machine b act p.moments) p.later p.rest p.goes_on in
        let line = shown_text machine b act in
        let rest = λ (between : Bench) (es : List Event) (xs : List ℕ). Plays machine guard between first es xs cut.mid cut.stopped in
        let plays : PlaysFirst machine b act rest (p.made ++ cut.early) (line ++ cut.shown) = record {
          made = p.made;
          moments = p.moments;
          does = p.does;
          later = cut.early;
          rest = cut.shown;
          events_are = refl;
          text_is = refl;
          goes_on = cut.plays;
        } in
        record {
          early = p.made ++ cut.early;
          moments = p.moments ++ cut.moments;
          shown = line ++ cut.shown;
          mid = cut.mid;
          stopped = cut.stopped;
          later = cut.later;
          rest = cut.rest;
          events_are = p.events_are ∙ ap (λ (es : List Event). p.made ++ es) cut.events_are ∙ sym (append_assoc p.made cut.early cut.later);
          text_is = p.text_is ∙ ap (λ (xs : List ℕ). line ++ xs) cut.text_is ∙ sym (append_assoc line cut.shown cut.rest);
          plays = subst (λ (s : Option PutWord). PlaysOne machine b act s rest (p.made ++ cut.early) (line ++ cut.shown) cut.mid cut.stopped) (sym same) plays;
          run = run-append machine b.core p.made cut.early p.moments cut.moments p.does.run cut.run;
          ends = cut.ends ∙ sym (last-append b.core p.moments cut.moments);
          goes_on = cut.goes_on;
        }

    cut_all : (b : Bench) (first : List Act) (events : List Event) (text : List ℕ) → Plays machine guard b (first ++ second) events text after met → CutsFrom b first events text
    cut_all b [] events text p = record {
      early = [];
      moments = [];
      shown = [];
      mid = b;
      stopped = None;
      later = events;
      rest = text;
      events_are = refl;
      text_is = refl;
      plays = (refl, refl, refl, refl);
      run = tt;
      ends = refl;
      goes_on = p;
    }
    cut_all b (act ∷ first) events text p =
        cut_one b act first events text (stopped_by machine guard (put_by machine b act)) refl (λ between es xs q. cut_all between first es xs q) p

  pub cut : (b after : Bench) (first second : List Act) (events : List Event) (text : List ℕ) (met : Option PutWord)
      → Plays machine guard b (first ++ second) events text after met → PlaysInTurn machine guard b first second events text after met
  cut b after first second events text met p = cut_all after second met b first events text p

  -- ---- along a run

  later_runs : (mid after : Bench) (stopped : Option PutWord) (second : List Act) (later : List Event) (rest : List ℕ) (met : Option PutWord)
      → GoesOnFrom machine guard mid stopped second later rest after met → RunsTo machine mid.core later after.core
  later_runs mid after None second later rest met p = play_runs machine guard mid second later rest after met p
  later_runs mid after (Some put) second later rest met p = play_runs machine guard mid [] later rest after None p.0

  pub cut_along : (b after : Bench) (first second : List Act) (events : List Event) (text : List ℕ) (met : Option PutWord) (all : List Moment) → IsMachine machine
      → Plays machine guard b (first ++ second) events text after met → Run machine b.core events all
      → (parts : PlaysInTurn machine guard b first second events text after met) × (further : List Moment) × (all ≡ parts.moments ++ further)
  cut_along b after first second events text met all h p r =
      let parts = cut b after first second events text met p in
      let behind = later_runs parts.mid after parts.stopped second parts.later parts.rest met parts.goes_on in
      let run = subst (λ (s : State). Run machine s parts.later behind.moments) parts.ends behind.run in
      let whole = run-append machine b.core parts.early parts.later parts.moments behind.moments parts.run run in (
        parts,
        behind.moments,
        one_run machine b.core (parts.early ++ parts.later) all (parts.moments ++ behind.moments) h
            (subst (λ (es : List Event). Run machine b.core es all) parts.events_are r) whole,
      )
