-- Acts that were made one after another. The proofs of the functions cite:
--     unfaulted, unchanged      the sink met no fault
--     none_made, act_made       no act, and one act
--     silent_made               one act that prints nothing
--     act_refused               one act that is refused
--     act_unsent                one act whose line wasn't sent
--     act_starved               one act that was made, and not all of what is heard of it was heard
--     act_unmade                one act that wasn't begun, for want of memory
--     made_on                   acts were made after acts
--     unmade_after              acts weren't all made, after acts that were
--     unmade_before             acts weren't all made, and others would have come after them
use Rattle.std.proofs.Common.{◌≡◌, ℕ, ◌+◌, ◌%◌, ◌^◌, ◌<◌, cond, List, [], ◌∷◌, ◌++◌, refl, sym, ap, subst, ◌∙◌, append-nil, arith}
use Rattle.std.specs.Prelude.{Bool, true, false, Option, Some, None, count_by}
use Rattle.std.proofs.Math.Nat.{mod-add-mod}
use Rattle.std.proofs.lemmas.List.Sums.{sum_by-append}
use Rattle.ags_drive.specs.Act.{Act}
use Rattle.ags_drive.specs.Bench as play
use Rattle.ags_drive.specs.Doing.{Does, Refusal, NoDevice, NoFeed, OutsidePut, refusal, bench_after, devices_where_refused, shown_text}
use Rattle.ags_drive.specs.Driven.{AreBehind, Refused, Stopped}
use Rattle.ags_drive.specs.Played.{Plays, still_there, next_text}
use Rattle.ags_drive.proofs.GrownLemmas.{HaveGrown, grown_still, behind_self, behind_from}
use Rattle.ags_drive.proofs.PointLemmas.{plays_on, point_here, point_before, point_after}
use Rattle.ags_device.specs.Record.{DeviceRecord}
use Rattle.ags_domain.specs.declared.values.Value.{Value}
use Rattle.ags_outside.specs.Count.{HasCause}
use Rattle.ags_outside.specs.Sink.{appended, appended_nothing, appended_twice, WroteFront, wrote_nothing, front_of_wrote}
use Rattle.ags_play.specs.Counted.{is_step, is_put}
use Rattle.ags_ports.specs.declared.events.Event.{Event}
use Rattle.ags_ports.specs.declared.machines.Machine.{Machine}
use Rattle.ags_ports.specs.Run.{Moment, AreEvents}
use Rattle.ags_safe.specs.Certificate.{Certificate}
use Rattle.ags_drive.specs.declared.benches.Bench.{Bench}
use Rattle.ags_drive.specs.declared.drive_error.DriveError.{DriveError}
use Rattle.ags_drive.specs.declared.drive_error.DriveError.TheVariants as error
use Rattle.ags_drive.specs.Making.{AreCounted, Made, Unmade, ActMade, IsFrontSent}
use Rattle.ags_drive.specs.Standing.{bench_of}

-- ---- faults of the sink

true_false : true ≡ false → ⊥
true_false is = cc

pub unchanged : (before now : ℕ) → now ≡ before → HasCause before now false
unchanged before now same = record { stays = omega (arith, same); cause = λ told. absurd (true_false (sym told)); clean = λ told. same }

pub unfaulted : (faults : ℕ) (fault : Bool) → fault ≡ false → HasCause faults faults fault
unfaulted faults fault none = subst (λ (told : Bool). HasCause faults faults told) (sym none) (unchanged faults faults refl)

-- ---- events

pub words_on : (first second : List Event) → AreEvents first → AreEvents second → AreEvents (first ++ second)
words_on [] second p q = q
words_on (event ∷ first) second p q = (p.0, words_on first second p.1 q)

pub counted_mod : (start mid end first second : ℕ) → mid ≡ (start + first) % 2 ^ 64 → end ≡ (mid + second) % 2 ^ 64 → end ≡ (start + (first + second)) % 2 ^ 64
counted_mod start mid end first second early late =
    let sum : start + first + second ≡ start + (first + second) = omega arith in
    late ∙ ap (λ (n : ℕ). (n + second) % 2 ^ 64) early ∙ mod-add-mod (start + first) (2 ^ 64) second ∙ ap (λ (n : ℕ). n % 2 ^ 64) sum

counted_on : (before mid after : Bench) (first second : List Event) → AreCounted before mid first → AreCounted mid after second → AreCounted before after (first ++ second)
counted_on before mid after first second p q = record {
  steps =
      counted_mod before.listener.steps mid.listener.steps after.listener.steps (count_by is_step first) (count_by is_step second) p.steps q.steps
      ∙ ap (λ (n : ℕ). (before.listener.steps + n) % 2 ^ 64) (sym (sum_by-append (λ (e : Event). cond (is_step e) 1 0) first second));
  puts = omega (arith, p.puts, q.puts, sum_by-append (λ (e : Event). cond (is_put e) 1 0) first second);
}

pub counted_none : (bench : Bench) → bench.listener.steps < 2 ^ 64 → AreCounted bench bench []
counted_none bench fits = record { steps = omega arith; puts = omega arith }

module _ (machine : Machine) (cert : Certificate Value) where
  -- ---- acts that were made

  pub none_made : (bench : Bench) (devices : List DeviceRecord) (told : Option (List ℕ)) → bench.listener.steps < 2 ^ 64 → Made machine cert [] told told bench bench devices devices
  none_made bench devices told fits = record {
    events = [];
    text = [];
    plays = (refl, refl, refl);
    words = tt;
    sent = sym (appended_nothing told);
    counted = counted_none bench fits;
  }

  one_plays : (b after : play.Bench) (act : Act) (events : List Event) (moments : List Moment) → refusal machine cert b act ≡ None → Does machine b act events moments → after ≡ bench_after machine b act moments
      → Plays machine cert b (act ∷ []) events (shown_text machine b act) after
  one_plays b after act events moments through does after_is = record {
    through = through;
    made = events;
    moments = moments;
    does = does;
    later = [];
    rest = [];
    events_are = sym (append-nil events);
    text_is = sym (append-nil (shown_text machine b act));
    goes_on = (refl, refl, after_is);
  }

  pub act_made : (act : Act) (old new : Option (List ℕ)) (before after : Bench) (devices now : List DeviceRecord) → ActMade machine cert act before after devices now
      → new ≡ appended old (shown_text machine (bench_of before devices) act) → Made machine cert (act ∷ []) old new before after devices now
  act_made act old new before after devices now p sent = record {
    events = p.events;
    text = shown_text machine (bench_of before devices) act;
    plays = one_plays (bench_of before devices) (bench_of after now) act p.events p.moments p.through p.does p.after_is;
    words = p.words;
    sent = sent;
    counted = p.counted;
  }

  pub silent_made : (act : Act) (before after : Bench) (devices now : List DeviceRecord) → shown_text machine (bench_of before devices) act ≡ [] → ActMade machine cert act before after devices now
      → (told : Option (List ℕ)) → Made machine cert (act ∷ []) told told before after devices now
  silent_made act before after devices now silent p told =
      act_made act told told before after devices now p (sym (appended_nothing told) ∙ ap (λ text. appended told text) (sym silent))

  pub made_on : (first second : List Act) (old between new : Option (List ℕ)) (before mid after : Bench) (devices during now : List DeviceRecord) → Made machine cert first old between before mid devices during
      → Made machine cert second between new mid after during now → Made machine cert (first ++ second) old new before after devices now
  made_on first second old between new before mid after devices during now p q = record {
    events = p.events ++ q.events;
    text = p.text ++ q.text;
    plays = plays_on machine cert (bench_of before devices) (bench_of mid during) (bench_of after now) first second p.events q.events p.text q.text p.plays q.plays;
    words = words_on p.events q.events p.words q.words;
    sent = q.sent ∙ ap (λ t. appended t q.text) p.sent ∙ appended_twice old p.text q.text;
    counted = counted_on before mid after p.events q.events p.counted q.counted;
  }

  -- ---- acts that weren't

  fronts_meet : (old between : Option (List ℕ)) (early text : List ℕ) → between ≡ appended old early → appended between text ≡ appended old (early ++ text)
  fronts_meet old between early text e = ap (λ t. appended t text) e ∙ appended_twice old early text

  refused_after : (first acts : List Act) (old between new : Option (List ℕ)) (before mid : Bench) (devices during now : List DeviceRecord) (why : Refusal) → Made machine cert first old between before mid devices during
      → Refused machine cert (bench_of mid during) acts between new now why → Refused machine cert (bench_of before devices) (first ++ acts) old new now why
  refused_after first acts old between new before mid devices during now why p q = record {
    events = p.events ++ q.events;
    text = p.text ++ q.text;
    here = q.here;
    done = first ++ q.done;
    act = q.act;
    rest = q.rest;
    point = point_after machine cert (bench_of before devices) (bench_of mid during) q.here first acts q.done (q.act ∷ q.rest) p.events q.events p.text q.text p.plays q.point;
    words = words_on p.events q.events p.words q.words;
    refused = q.refused;
    records = q.records;
    sent = q.sent ∙ fronts_meet old between p.text q.text p.sent;
  }

  refused_before : (b : play.Bench) (acts more : List Act) (old new : Option (List ℕ)) (now : List DeviceRecord) (why : Refusal) → Refused machine cert b acts old new now why → Refused machine cert b (acts ++ more) old new now why
  refused_before b acts more old new now why p = record {
    events = p.events;
    text = p.text;
    here = p.here;
    done = p.done;
    act = p.act;
    rest = p.rest ++ more;
    point = point_before machine cert b p.here acts p.done (p.act ∷ p.rest) more p.events p.text p.point;
    words = p.words;
    refused = p.refused;
    records = p.records;
    sent = p.sent;
  }

  nothing_done : (xs ys : List ℕ) → xs ++ ys ≡ [] → xs ≡ []
  nothing_done [] ys e = refl
  nothing_done (x ∷ xs) ys e = cc

  front_of_any : (old new : Option (List ℕ)) (text : List ℕ) → WroteFront old new [] → WroteFront old new text
  front_of_any old new text p = record {
    rest = text;
    wrote = record { done = []; told = p.wrote.told ∙ ap (λ xs. appended old xs) (nothing_done p.wrote.done p.rest p.wrote.whole); whole = refl };
  }

  -- where nothing more was sent, a front of whatever comes next was
  front_of_next : (here : play.Bench) (rest more : List Act) (old new : Option (List ℕ)) → WroteFront old new (next_text machine here rest) → WroteFront old new (next_text machine here (rest ++ more))
  front_of_next here (act ∷ rest) more old new p = p
  front_of_next here [] more old new p = front_of_any old new (next_text machine here more) p

  stopped_before : (b : play.Bench) (acts more : List Act) (old new : Option (List ℕ)) (Stands : (first point : List DeviceRecord) → Type 0) → Stopped machine cert b acts old new Stands
      → Stopped machine cert b (acts ++ more) old new Stands
  stopped_before b acts more old new Stands p = record {
    events = p.events;
    text = p.text;
    here = p.here;
    done = p.done;
    rest = p.rest ++ more;
    point = point_before machine cert b p.here acts p.done p.rest more p.events p.text p.point;
    words = p.words;
    records = p.records;
    front = front_of_next p.here p.rest more (appended old p.text) new p.front;
  }

  stopped_after : (first acts : List Act) (old between new : Option (List ℕ)) (before mid : Bench) (devices during : List DeviceRecord) (Stands : (first point : List DeviceRecord) → Type 0)
      → ((fs ds ps : List DeviceRecord) → HaveGrown fs ds → Stands ds ps → Stands fs ps)
      → Made machine cert first old between before mid devices during → Stopped machine cert (bench_of mid during) acts between new Stands → Stopped machine cert (bench_of before devices) (first ++ acts) old new Stands
  stopped_after first acts old between new before mid devices during Stands on p q = record {
    events = p.events ++ q.events;
    text = p.text ++ q.text;
    here = q.here;
    done = first ++ q.done;
    rest = q.rest;
    point = point_after machine cert (bench_of before devices) (bench_of mid during) q.here first acts q.done q.rest p.events q.events p.text q.text p.plays q.point;
    words = words_on p.events q.events p.words q.words;
    records = on (still_there devices (first ++ q.done)) (still_there during q.done) q.here.devices
        (grown_still machine cert (bench_of before devices) (bench_of mid during) first q.done p.events p.text p.plays) q.records;
    front = subst (λ (told : Option (List ℕ)). WroteFront told new (next_text machine q.here q.rest)) (fronts_meet old between p.text q.text p.sent) q.front;
  }

  pub unmade_before : (b : play.Bench) (acts more : List Act) (old new : Option (List ℕ)) (now : List DeviceRecord) (met : DriveError) → Unmade machine cert b acts old new now met → Unmade machine cert b (acts ++ more) old new now met
  unmade_before b acts more old new now error.WriteFault p = stopped_before b acts more old new (λ first point. now ≡ point) p
  unmade_before b acts more old new now error.NoMemory p = stopped_before b acts more old new (λ first point. AreBehind first now point) p
  unmade_before b acts more old new now (error.InputRange address word) p = refused_before b acts more old new now (OutsidePut (record { address = address; word = word })) p
  unmade_before b acts more old new now (error.NoDevice line device) p = refused_before b acts more old new now (NoDevice line device) p
  unmade_before b acts more old new now (error.NoFeed line device) p = refused_before b acts more old new now (NoFeed line device) p
  unmade_before b acts more old new now (error.StartOutside outside) p = absurd p

  pub unmade_after : (first acts : List Act) (old between new : Option (List ℕ)) (before mid : Bench) (devices during now : List DeviceRecord) (met : DriveError) → Made machine cert first old between before mid devices during
      → Unmade machine cert (bench_of mid during) acts between new now met → Unmade machine cert (bench_of before devices) (first ++ acts) old new now met
  unmade_after first acts old between new before mid devices during now error.WriteFault p q =
      stopped_after first acts old between new before mid devices during (λ first point. now ≡ point) (λ fs ds ps grown stands. stands) p q
  unmade_after first acts old between new before mid devices during now error.NoMemory p q =
      stopped_after first acts old between new before mid devices during (λ first point. AreBehind first now point) (λ fs ds ps grown stands. behind_from fs ds now ps grown stands) p q
  unmade_after first acts old between new before mid devices during now (error.InputRange address word) p q =
      refused_after first acts old between new before mid devices during now (OutsidePut (record { address = address; word = word })) p q
  unmade_after first acts old between new before mid devices during now (error.NoDevice line device) p q = refused_after first acts old between new before mid devices during now (NoDevice line device) p q
  unmade_after first acts old between new before mid devices during now (error.NoFeed line device) p q = refused_after first acts old between new before mid devices during now (NoFeed line device) p q
  unmade_after first acts old between new before mid devices during now (error.StartOutside outside) p q = absurd q

  -- ---- one act that wasn't

  pub act_refused : (b : play.Bench) (act : Act) (told : Option (List ℕ)) (now : List DeviceRecord) (why : Refusal) → refusal machine cert b act ≡ Some why → now ≡ devices_where_refused machine b act why
      → Refused machine cert b (act ∷ []) told told now why
  act_refused b act told now why refused records = record {
    events = [];
    text = [];
    here = b;
    done = [];
    act = act;
    rest = [];
    point = point_here machine cert b (act ∷ []);
    words = tt;
    refused = refused;
    records = records;
    sent = sym (appended_nothing told);
  }

  stopped_at_once : (b : play.Bench) (act : Act) (old new : Option (List ℕ)) (Stands : (first point : List DeviceRecord) → Type 0) → Stands b.devices b.devices → WroteFront old new (shown_text machine b act)
      → Stopped machine cert b (act ∷ []) old new Stands
  stopped_at_once b act old new Stands stands front = record {
    events = [];
    text = [];
    here = b;
    done = [];
    rest = act ∷ [];
    point = point_here machine cert b (act ∷ []);
    words = tt;
    records = stands;
    front = subst (λ (told : Option (List ℕ)). WroteFront told new (shown_text machine b act)) (sym (appended_nothing old)) front;
  }

  pub act_unsent : (b : play.Bench) (act : Act) (old new : Option (List ℕ)) (met : DriveError) → IsFrontSent old new (shown_text machine b act) met → Unmade machine cert b (act ∷ []) old new b.devices met
  act_unsent b act old new error.WriteFault front = stopped_at_once b act old new (λ first point. b.devices ≡ point) refl front
  act_unsent b act old new error.NoMemory front = stopped_at_once b act old new (λ first point. AreBehind first b.devices point) (behind_self b.devices) front
  act_unsent b act old new (error.InputRange address word) front = absurd front
  act_unsent b act old new (error.NoDevice line device) front = absurd front
  act_unsent b act old new (error.NoFeed line device) front = absurd front
  act_unsent b act old new (error.StartOutside outside) front = absurd front

  pub act_unmade : (b : play.Bench) (act : Act) (told : Option (List ℕ)) (now : List DeviceRecord) → now ≡ b.devices → Unmade machine cert b (act ∷ []) told told now error.NoMemory
  act_unmade b act told now same =
      subst (λ (ds : List DeviceRecord). Unmade machine cert b (act ∷ []) told told ds error.NoMemory) (sym same)
      (stopped_at_once b act told told (λ first point. AreBehind first b.devices point) (behind_self b.devices) (front_of_wrote (wrote_nothing told (shown_text machine b act))))

  pub act_starved : (b : play.Bench) (act : Act) (events : List Event) (moments : List Moment) (told : Option (List ℕ)) (now : List DeviceRecord) → refusal machine cert b act ≡ None → Does machine b act events moments
      → AreEvents events → shown_text machine b act ≡ [] → AreBehind (still_there b.devices (act ∷ [])) now (bench_after machine b act moments).devices → Unmade machine cert b (act ∷ []) told told now error.NoMemory
  act_starved b act events moments told now through does words silent behind = record {
    events = events;
    text = shown_text machine b act;
    here = bench_after machine b act moments;
    done = act ∷ [];
    rest = [];
    point = record { acts_are = refl; plays = one_plays b (bench_after machine b act moments) act events moments through does refl };
    words = words;
    records = behind;
    front = record {
      rest = [];
      wrote = record { done = []; told = sym (appended_nothing (appended told (shown_text machine b act)) ∙ ap (λ text. appended told text) silent ∙ appended_nothing told); whole = refl };
    };
  }
