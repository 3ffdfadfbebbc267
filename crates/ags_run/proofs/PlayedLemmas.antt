-- What a play comes to, by how it was begun and by what its acts came to. The proofs of `play` and of `play_from_start` cite:
--     not_begun, no_write_fault, found_outside      it was not begun, or the start is outside
--     ended_whole, ended_unplayed, ended_with_fault     the acts of its commands met something, or nothing
use Rattle.std.proofs.Common.{◌≡◌, ℕ, ◌+◌, ◌%◌, ◌^◌, ◌<◌, ◌≤◌, List, [], length, refl, sym, subst, arith}
use Rattle.std.specs.Prelude.{Option, Some, None, Result, Ok, Err, IfOk, IfErr, IsErrOf, OnErr, option_map, count_by, sum_by}
use Rattle.ags_domain.specs.declared.values.Value.{Value}
use Rattle.ags_outside.specs.declared.sending.SendError.{SendError}
use Rattle.ags_outside.specs.declared.sending.SendError.TheVariants.{WriteFault, NoMemory}
use Rattle.ags_outside.specs.Send.{is_write_fault}
use Rattle.ags_outside.specs.Sink.{appended_nothing, front_of_wrote, wrote_nothing}
use Rattle.ags_play.specs.Act.{acts_of}
use Rattle.ags_play.specs.Bench.{begun_state, start_bench}
use Rattle.ags_play.specs.Counted.{is_step, is_put}
use Rattle.ags_play.specs.Guard.{IsFound}
use Rattle.ags_play.specs.Played.{met_of, OutsideStart, OutsidePut}
use Rattle.ags_play.proofs.SearchLemmas.{some_play_of}
use Rattle.ags_ports.specs.declared.machines.Machine.{Machine}
use Rattle.ags_ports.specs.Machine.{IsMachine}
use Rattle.ags_ports.specs.State.{State}
use Rattle.ags_safe.specs.Certificate.{Certificate}
use Rattle.ags_script.specs.declared.commands.Command.{Command}
use Rattle.ags_script.specs.Limit.{step_limit}
use Rattle.ags_script.specs.Command.{step_count}
use Rattle.ags_run.specs.Acted.{ActsPlayed, ActsInPart}
use Rattle.ags_run.specs.declared.benches.Bench.{Bench}
use Rattle.ags_run.specs.declared.outside.Outside.{Outside}
use Rattle.ags_run.specs.declared.play_error.PlayError.TheVariants as unplayed
use Rattle.ags_run.specs.declared.playing.Played.{Played}
use Rattle.ags_run.specs.declared.players.Player.{Player}
use Rattle.ags_run.specs.declared.players.StoppedWord.{StoppedWord}
use Rattle.ags_run.specs.Play.{PlayedTo, PlayedWhole, PlayedInPart, IsUnplayed, is_play_fault, outside_of}
use Rattle.ags_run.specs.Playing.{guard_in, put_of, Begins, PlayedActs, InPart, end_of}
use Rattle.ags_play.proofs.CountLemmas.{few_steps, few_puts}

-- a count that is kept modulo 2 ^ 64, from 0 on, is the number itself where that is less
exact : (before after count : ℕ) → before ≡ 0 → after ≡ (before + count) % 2 ^ 64 → count < 2 ^ 64 → after ≡ count
exact before after count none counted few = omega arith

-- where the memory didn't suffice for the start, nothing of the play was printed
pub not_begun : (machine : Machine) (image : List (Option ℕ)) (guard : Option (Certificate Value)) (commands : List Command) (told : Option (List ℕ)) → IsMachine machine
    → PlayedInPart machine image guard commands told told
not_begun machine image guard commands told is =
    let (events, text, met, plays) = some_play_of machine image guard commands is in
    record { events = events; text = text; met = met; plays = plays; front = front_of_wrote (wrote_nothing told text) }

-- want of memory is no fault of the output
pub no_write_fault : IsErrOf {T = Played} (Err unplayed.NoMemory) unplayed.WriteFault → ⊥
no_write_fault is = cc

module _ (machine : Machine) (image : List (Option ℕ)) (guard : Option (Certificate Value)) (commands : List Command) (player : Player) (begins : Begins machine image guard commands player) where
  -- what the player finds outside is what is outside of the script's start
  abbrev Finds : Option Outside → Type 0
  Finds found = IsFound player.machine.now image (guard_in player) player.bench.core (option_map outside_of found)

  start_found : (found : Option Outside) → Finds found → IsFound machine image guard (begun_state machine image guard commands) (option_map outside_of found)
  start_found found finds =
      subst (λ (m : Machine). IsFound m image guard (begun_state machine image guard commands) (option_map outside_of found)) begins.machine_is
      (subst (λ (g : Option (Certificate Value)). IsFound player.machine.now image g (begun_state machine image guard commands) (option_map outside_of found)) begins.guard_is
      (subst (λ (s : State). IsFound player.machine.now image (guard_in player) s (option_map outside_of found)) begins.stands.core finds))

  pub found_outside : (outside : Outside) (told : Option (List ℕ)) → Finds (Some outside) → PlayedTo machine image guard commands told told (OutsideStart (outside_of outside))
  found_outside outside told finds = record {
    events = [];
    text = [];
    plays = record { found = Some (outside_of outside); tested = start_found (Some outside) finds; played = (refl, refl, refl) };
    sent = sym (appended_nothing told);
  }

  from_start : (old new : Option (List ℕ)) (after : Player) (met : Option StoppedWord) → PlayedActs (acts_of commands) old new player after met
      → ActsPlayed machine guard (start_bench machine image guard commands) (acts_of commands) old new player.bench after.bench (option_map put_of met)
  from_start old new after met p =
      let b = start_bench machine image guard commands in
      subst (λ (m : Machine). ActsPlayed m guard b (acts_of commands) old new player.bench after.bench (option_map put_of met)) begins.machine_is
      (subst (λ (g : Option (Certificate Value)). ActsPlayed player.machine.now g b (acts_of commands) old new player.bench after.bench (option_map put_of met)) begins.guard_is (p.played b begins.stands))

  -- acts that were played from the start to their end are the script's play
  played_whole : (old new : Option (List ℕ)) (after : Player) → Finds None → IsMachine machine → sum_by step_count commands ≤ step_limit → length commands < 2 ^ 63
      → (met : Option StoppedWord) → met ≡ None → PlayedActs (acts_of commands) old new player after met → PlayedWhole machine image guard commands old new (record { steps = after.bench.listener.steps; puts = after.bench.puts })
  played_whole old new after finds is few_in_all few met none p =
      let b = start_bench machine image guard commands in
      let made = from_start old new after None (subst (PlayedActs (acts_of commands) old new player after) none p) in
      let counted = made.counted refl in
      let steps = few_steps machine guard b made.end commands made.events made.text None is made.plays in
      let puts = few_puts machine guard b made.end commands made.events made.text None made.plays in
      record {
        events = made.events;
        text = made.text;
        plays = record { found = None; tested = start_found None finds; played = record { after = made.end; stopped = None; plays = made.plays; met_is = refl } };
        sent = made.sent;
        steps = exact player.bench.listener.steps after.bench.listener.steps (count_by is_step made.events) begins.steps counted.steps (omega arith);
        puts = exact player.bench.puts after.bench.puts (count_by is_put made.events) begins.puts counted.puts (omega arith);
      }

  played_to : (old new : Option (List ℕ)) (after : Player) (stopped : StoppedWord) → Finds None → (met : Option StoppedWord) → met ≡ Some stopped → PlayedActs (acts_of commands) old new player after met
      → PlayedTo machine image guard commands old new (OutsidePut (put_of stopped))
  played_to old new after stopped finds met some p =
      let made = from_start old new after (Some stopped) (subst (PlayedActs (acts_of commands) old new player after) some p) in
      record {
        events = made.events;
        text = made.text;
        plays = record { found = None; tested = start_found None finds; played = record { after = made.end; stopped = Some (put_of stopped); plays = made.plays; met_is = refl } };
        sent = made.sent;
      }

  played_in_part : (old new : Option (List ℕ)) → Finds None → InPart (acts_of commands) old new player → PlayedInPart machine image guard commands old new
  played_in_part old new finds p =
      let b = start_bench machine image guard commands in
      let part =
      subst (λ (m : Machine). ActsInPart m guard b (acts_of commands) old new) begins.machine_is
      (subst (λ (g : Option (Certificate Value)). ActsInPart player.machine.now g b (acts_of commands) old new) begins.guard_is (p b begins.stands)) in
      record {
        events = part.events;
        text = part.text;
        met = met_of part.met;
        plays = record { found = None; tested = start_found None finds; played = record { after = part.end; stopped = part.met; plays = part.plays; met_is = refl } };
        front = part.front;
      }

  -- ---- by what the commands met

  pub ended_whole : (old new : Option (List ℕ)) (after : Player) → Finds None → IsMachine machine → sum_by step_count commands ≤ step_limit → length commands < 2 ^ 63
      → (met : Result (Option StoppedWord) SendError) → IfOk met (PlayedActs (acts_of commands) old new player after) → IfOk (end_of after.bench met) (PlayedWhole machine image guard commands old new)
  ended_whole old new after finds is few_in_all few (Ok None) p = played_whole old new after finds is few_in_all few None refl p
  ended_whole old new after finds is few_in_all few (Ok (Some stopped)) p = tt
  ended_whole old new after finds is few_in_all few (Err WriteFault) p = tt
  ended_whole old new after finds is few_in_all few (Err NoMemory) p = tt

  pub ended_unplayed : (old new : Option (List ℕ)) (after : Player) → Finds None
      → (met : Result (Option StoppedWord) SendError) → IfOk met (PlayedActs (acts_of commands) old new player after) → OnErr met (InPart (acts_of commands) old new player)
      → IfErr (end_of after.bench met) (IsUnplayed machine image guard commands old new)
  ended_unplayed old new after finds (Ok None) p part = tt
  ended_unplayed old new after finds (Ok (Some stopped)) p part = played_to old new after stopped finds (Some stopped) refl p
  ended_unplayed old new after finds (Err WriteFault) p part = played_in_part old new finds part
  ended_unplayed old new after finds (Err NoMemory) p part = played_in_part old new finds part

pub ended_with_fault : (bench : Bench) (met : Result (Option StoppedWord) SendError) → is_play_fault (end_of bench met) ≡ is_write_fault met
ended_with_fault bench (Ok None) = refl
ended_with_fault bench (Ok (Some stopped)) = refl
ended_with_fault bench (Err WriteFault) = refl
ended_with_fault bench (Err NoMemory) = refl
