-- Acts that were played one after another. The proofs of the player's methods cite:
--     unfailed             nothing was printed
--     none_played, made_played, plain_played, under_played     no act, and one
--     played_on            acts were played after acts
--     part_on              of acts after those that were played a part was printed
--     stopped_before, part_before     others would have come after them
--     none_stopped         an act that puts no word is let through
--     act_in_part          of an act that puts no word a part was printed
--     keeps_same, is_machine     the machine and the guard are the same
use Rattle.std.proofs.Common.{◌≡◌, ℕ, ◌+◌, List, [], ◌∷◌, ◌++◌, refl, sym, ap, subst, ◌∙◌, append-nil, arith}
use Rattle.std.specs.Prelude.{Bool, false, cond, ◌%◌, ◌^◌, count_by, Option, Some, None, option_map}
use Rattle.std.proofs.lemmas.List.Sums.{sum_by-append}
use Rattle.ags_domain.specs.declared.values.Value.{Value}
use Rattle.ags_outside.specs.Count.{HasCause}
use Rattle.ags_outside.specs.Sink.{appended, appended_nothing, appended_twice, WroteFront, front_in_first, front_in_second}
use Rattle.ags_play.specs.Act.{Act}
use Rattle.ags_play.specs.Bench as play
use Rattle.ags_play.specs.Counted.{is_step, is_put}
use Rattle.ags_play.specs.Doing.{PutWord, put_by, bench_after, shown_text}
use Rattle.ags_play.specs.Guard.{stopped_by}
use Rattle.ags_play.specs.Played.{Plays, PlaysOne}
use Rattle.ags_play.proofs.OnePlayLemmas.{some_play}
use Rattle.ags_ports.specs.declared.events.Event.{Event}
use Rattle.ags_ports.specs.declared.machines.Machine.{Machine}
use Rattle.ags_ports.specs.Machine.{IsMachine}
use Rattle.ags_safe.specs.Certificate.{Certificate}
use Rattle.ags_run.specs.declared.benches.Bench.{Bench}
use Rattle.ags_run.specs.declared.players.Player.{Player}
use Rattle.ags_run.specs.declared.players.StoppedWord.{StoppedWord}
use Rattle.ags_run.specs.Acted.{AreCounted, ActMade, ActsPlayed, ActsInPart}
use Rattle.ags_run.specs.Making.{ActMet}
use Rattle.ags_run.specs.Playing.{guard_in, put_of, KeepsRules, Acted, ActedUnder, PlayedActs, InPart}
use Rattle.ags_run.specs.Standing.{StandsAs}
use Rattle.ags_run.proofs.ActLemmas.{counted_on}
use Rattle.ags_play.proofs.CutLemmas.{plays_on, plays_stop}

-- a call that prints nothing meets no fault
pub unfailed : (faults : ℕ) → HasCause faults faults false
unfailed faults = record { stays = omega arith; cause = λ told. absurd cc; clean = λ told. refl }

-- ---- what is counted

count_by-append : {X : Type 0} (p : X → Bool) (xs ys : List X) → count_by p (xs ++ ys) ≡ count_by p xs + count_by p ys
count_by-append {X} p xs ys = sum_by-append (λ (x : X). cond (p x) 1 0) xs ys

pub none_counted : (bench : Bench) → AreCounted bench bench []
none_counted bench =
    let steps = bench.listener.counted in
    let puts = bench.counted in
    record { steps = omega arith; puts = omega arith }

further_counted : (before between after : Bench) (events later : List Event) → AreCounted before between events → AreCounted between after later → AreCounted before after (events ++ later)
further_counted before between after events later p q = record {
  steps = counted_on before.listener.steps between.listener.steps after.listener.steps (count_by is_step events) (count_by is_step later) p.steps q.steps
      ∙ ap (λ (n : ℕ). (before.listener.steps + n) % 2 ^ 64) (sym (count_by-append is_step events later));
  puts = counted_on before.puts between.puts after.puts (count_by is_put events) (count_by is_put later) p.puts q.puts
      ∙ ap (λ (n : ℕ). (before.puts + n) % 2 ^ 64) (sym (count_by-append is_put events later));
}

-- ---- one act from a bench

module _ (machine : Machine) (guard : Option (Certificate Value)) where
  none_stopped_by : (some : Option (Certificate Value)) → stopped_by machine some None ≡ None
  none_stopped_by None = refl
  none_stopped_by (Some cert) = refl

  pub none_stopped : stopped_by machine guard None ≡ None
  none_stopped = none_stopped_by guard

  act_made : (b : play.Bench) (act : Act) (old new : Option (List ℕ)) (before after : Bench) → stopped_by machine guard (put_by machine b act) ≡ None → ActMade machine b act before after
      → new ≡ appended old (shown_text machine b act) → ActsPlayed machine guard b (act ∷ []) old new before after None
  act_made b act old new before after through made sent =
      let end = bench_after machine b act made.moments in
      let events = made.events in
      let text = shown_text machine b act in
      record {
        events = events;
        text = text;
        end = end;
        plays = subst (λ (put : Option PutWord). PlaysOne machine b act put (λ between later rest. Plays machine guard between [] later rest end None) events text end None) (sym through)
            (record {
              made = events;
              moments = made.moments;
              does = made.does;
              later = [];
              rest = [];
              events_are = sym (append-nil events);
              text_is = sym (append-nil text);
              goes_on = (refl, refl, refl, refl);
            });
        sent = sent;
        stands = λ _. made.stands;
        counted = λ _. made.counted;
      }

  pub act_in_part : (b : play.Bench) (act : Act) (old new : Option (List ℕ)) (bench : Bench) → stopped_by machine guard (put_by machine b act) ≡ None → ActMade machine b act bench bench
      → WroteFront old new (shown_text machine b act) → ActsInPart machine guard b (act ∷ []) old new
  unfolding act_made
  act_in_part b act old new bench through made front =
      let whole = act_made b act old (appended old (shown_text machine b act)) bench bench through made refl in
      record { events = whole.events; text = whole.text; end = whole.end; met = None; plays = whole.plays; front = front }

  some_none : (put : PutWord) → Some put ≡ None → ⊥
  some_none put is = cc

  act_stopped : (b : play.Bench) (act : Act) (told : Option (List ℕ)) (before after : Bench) (put : PutWord) → stopped_by machine guard (put_by machine b act) ≡ Some put
      → ActsPlayed machine guard b (act ∷ []) told told before after (Some put)
  act_stopped b act told before after put stopped = record {
    events = [];
    text = [];
    end = b;
    plays = subst (λ (word : Option PutWord). PlaysOne machine b act word (λ between later rest. Plays machine guard between [] later rest b (Some put)) [] [] b (Some put)) (sym stopped) (refl, refl, refl, refl);
    sent = sym (appended_nothing told);
    stands = λ none. absurd (some_none put none);
    counted = λ none. absurd (some_none put none);
  }

  act_met : (b : play.Bench) (act : Act) (told : Option (List ℕ)) (before after : Bench) (met : Option PutWord) → shown_text machine b act ≡ [] → ActMet machine guard b act before after met
      → ActsPlayed machine guard b (act ∷ []) told told before after met
  act_met b act told before after None shows_none p = act_made b act told told before after p.stopped (p.made refl) (rw shows_none (sym (appended_nothing told)))
  act_met b act told before after (Some put) shows_none p = act_stopped b act told before after put p.stopped

  in_part_met : (first second : List Act) (old new : Option (List ℕ)) (b : play.Bench) (events : List Event) (text : List ℕ) (end : play.Bench) (met : Option PutWord) → IsMachine machine
      → Plays machine guard b first events text end met → WroteFront old new text → ActsInPart machine guard b (first ++ second) old new
  in_part_met first second old new b events text end (Some put) h plays front = record {
    events = events;
    text = text;
    end = end;
    met = Some put;
    plays = plays_stop machine guard b end first second events text put plays;
    front = front;
  }
  in_part_met first second old new b events text end None h plays front =
      let rest = some_play machine guard end second h in
      record {
        events = events ++ rest.0;
        text = text ++ rest.1;
        end = rest.2;
        met = rest.3;
        plays = plays_on machine guard b end rest.2 first second events rest.0 text rest.1 rest.3 plays rest.4;
        front = front_in_first text rest.1 front;
      }

-- ---- a player's rules

-- what is so under the rules that a player has is so under those that it had
under : (P : Machine → Option (Certificate Value) → Type 0) (before after : Player) → KeepsRules before after → P after.machine.now (guard_in after) → P before.machine.now (guard_in before)
under P before after keeps holds = subst (λ (machine : Machine). P machine (guard_in before)) keeps.machine (subst (P after.machine.now) keeps.guard holds)

pub keeps_same : (player : Player) → KeepsRules player player
keeps_same player = record { machine = refl; guard = refl }

keeps_on : (before between after : Player) → KeepsRules before between → KeepsRules between after → KeepsRules before after
keeps_on before between after p q = record { machine = q.machine ∙ p.machine; guard = q.guard ∙ p.guard }

-- ---- no act, and one

pub none_played : (told : Option (List ℕ)) (player : Player) → PlayedActs [] told told player player None
none_played told player = record {
  keeps = keeps_same player;
  played = λ b stands. record {
    events = [];
    text = [];
    end = b;
    plays = (refl, refl, refl, refl);
    sent = sym (appended_nothing told);
    stands = λ _. stands;
    counted = λ _. none_counted player.bench;
  };
}

-- an act that puts no word
pub made_played : (act : Act) (old new : Option (List ℕ)) (before after : Player) → ((b : play.Bench) → put_by before.machine.now b act ≡ None)
    → ((b : play.Bench) → StandsAs before.bench b → new ≡ appended old (shown_text before.machine.now b act)) → Acted act before after → PlayedActs (act ∷ []) old new before after None
made_played act old new before after puts_none sent p = record {
  keeps = p.keeps;
  played = λ b stands. act_made before.machine.now (guard_in before) b act old new before.bench after.bench (rw (puts_none b) (none_stopped before.machine.now (guard_in before))) (p.made b stands) (sent b stands);
}

-- one that prints nothing either
pub plain_played : (act : Act) (told : Option (List ℕ)) (before after : Player) → ((b : play.Bench) → put_by before.machine.now b act ≡ None) → ((b : play.Bench) → shown_text before.machine.now b act ≡ [])
    → Acted act before after → PlayedActs (act ∷ []) told told before after None
plain_played act told before after puts_none shows_none p =
    made_played act told told before after puts_none (λ b _. rw (shows_none b) (sym (appended_nothing told))) p

-- one that the guard may stop
pub under_played : (act : Act) (told : Option (List ℕ)) (before after : Player) (met : Option StoppedWord) → ((b : play.Bench) → shown_text before.machine.now b act ≡ [])
    → ActedUnder act before after met → PlayedActs (act ∷ []) told told before after met
under_played act told before after met shows_none p = record {
  keeps = p.keeps;
  played = λ b stands. act_met before.machine.now (guard_in before) b act told before.bench after.bench (option_map put_of met) (shows_none b) (p.by_guard b stands);
}

-- ---- acts after acts

module _ (first second : List Act) where
  pub played_on : (old mid new : Option (List ℕ)) (before between after : Player) (met : Option StoppedWord) → PlayedActs first old mid before between None
      → PlayedActs second mid new between after met → PlayedActs (first ++ second) old new before after met
  played_on old mid new before between after met p q = record {
    keeps = keeps_on before between after p.keeps q.keeps;
    played = λ b stands.
        let early = p.played b stands in
        let late = under (λ machine guard. ActsPlayed machine guard early.end second mid new between.bench after.bench (option_map put_of met)) before between p.keeps (q.played early.end (early.stands refl)) in
        record {
          events = early.events ++ late.events;
          text = early.text ++ late.text;
          end = late.end;
          plays = plays_on before.machine.now (guard_in before) b early.end late.end first second early.events late.events early.text late.text (option_map put_of met) early.plays late.plays;
          sent = late.sent ∙ ap (λ (held : Option (List ℕ)). appended held late.text) early.sent ∙ appended_twice old early.text late.text;
          stands = late.stands;
          counted = λ none. further_counted before.bench between.bench after.bench early.events late.events (early.counted refl) (late.counted none);
        };
  }

  pub part_on : (old mid new : Option (List ℕ)) (before between : Player) → PlayedActs first old mid before between None → InPart second mid new between → InPart (first ++ second) old new before
  part_on old mid new before between p q b stands =
      let early = p.played b stands in
      let late = under (λ machine guard. ActsInPart machine guard early.end second mid new) before between p.keeps (q early.end (early.stands refl)) in
      record {
        events = early.events ++ late.events;
        text = early.text ++ late.text;
        end = late.end;
        met = late.met;
        plays = plays_on before.machine.now (guard_in before) b early.end late.end first second early.events late.events early.text late.text late.met early.plays late.plays;
        front = front_in_second early.text late.text early.sent late.front;
      }

  pub stopped_before : (old new : Option (List ℕ)) (before after : Player) (stopped : StoppedWord) → PlayedActs first old new before after (Some stopped)
      → PlayedActs (first ++ second) old new before after (Some stopped)
  stopped_before old new before after stopped p = record {
    keeps = p.keeps;
    played = λ b stands.
        let early = p.played b stands in
        record {
          events = early.events;
          text = early.text;
          end = early.end;
          plays = plays_stop before.machine.now (guard_in before) b early.end first second early.events early.text (put_of stopped) early.plays;
          sent = early.sent;
          stands = early.stands;
          counted = early.counted;
        };
  }

  pub part_before : (old new : Option (List ℕ)) (before : Player) → IsMachine before.machine.now → InPart first old new before → InPart (first ++ second) old new before
  part_before old new before h p b stands =
      let part = p b stands in
      in_part_met before.machine.now (guard_in before) first second old new b part.events part.text part.end part.met h part.plays part.front

-- the rules are the machine's
pub is_machine : (before after : Player) → KeepsRules before after → IsMachine before.machine.now → IsMachine after.machine.now
is_machine before after keeps h = subst IsMachine (sym keeps.machine) h
