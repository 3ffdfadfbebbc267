-- Each word that a play puts is one: below 2 ^ 18. The crates above cite:
--     unsent_small    a digit that a panel has to send is 15 at most
--     play_events     the events of acts of which each puts a word
--     acts_put        the acts of commands of which each names a word
use Rattle.std.proofs.Common.{◌≡◌, ℕ, zero, suc, ◌<◌, ◌≤◌, ◌^◌, Bool, true, false, List, [], ◌∷◌, ◌++◌, length, map, drop, reverse, replicate, refl, sym, subst, arith, All, nat_lt}
use Rattle.std.specs.Prelude.{Option, Some, None, option_map, if◌then◌else◌}
use Rattle.std.specs.List.{AllByRecursion}
use Rattle.std.proofs.lemmas.List.Elements.{All-head, All-tail}
use Rattle.ags_deda.specs.declared.keys.Key.{Key}
use Rattle.ags_deda.specs.declared.keys.Key.TheVariants as key
use Rattle.ags_deda.specs.Key.{blank_digit, key_digit}
use Rattle.ags_deda.specs.Happening.{Happening, since_clear, keys_of, sent_count}
use Rattle.ags_deda.specs.Panel.{padded, spelled, is_whole, message, unsent}
use Rattle.ags_domain.specs.declared.values.Value.{Value}
use Rattle.ags_ports.specs.declared.events.Event.{Event}
use Rattle.ags_ports.specs.declared.events.Event.TheVariants as event
use Rattle.ags_ports.specs.declared.machines.Machine.{Machine}
use Rattle.ags_ports.specs.Run.{Moment, AreEvents}
use Rattle.ags_safe.specs.Certificate.{Certificate}
use Rattle.ags_script.specs.declared.commands.Command.{Command}
use Rattle.ags_script.specs.declared.commands.Command.TheVariants as command
use Rattle.ags_script.specs.Suiting.{NamesWord}
use Rattle.ags_play.specs.Act.{Act, MakesSteps, Pulses, Puts, Presses, Feeds, FeedsWhereZero, RunsCycle, ShowsReg, ShowsCell, ShowsOut, ShowsDeda, cycles, acts_of, acts_of_command}
use Rattle.ags_play.specs.Bench.{Bench}
use Rattle.ags_play.specs.Doing.{PutWord, Makes, next_digit, wants_digit, digit_taken, put_of_digit, put_by, put_events, bench_after}
use Rattle.ags_play.specs.Guard.{stopped_by}
use Rattle.ags_play.specs.Played.{Plays, PlaysOne}

-- ---- the panel's digits

abbrev pub AreSmall : List ℕ → Type 0
AreSmall digits = AllByRecursion (λ digit. digit ≤ 15) digits

chosen_small : (b : Bool) (x y : ℕ) → (b ≡ true → x ≤ 15) → y ≤ 15 → (if b then x else y) ≤ 15
chosen_small true x y p r = p refl
chosen_small false x y p r = r

decimal_small : (digit : ℕ) → nat_lt digit 10 ≡ true → digit ≤ 15
decimal_small digit is = grind arith

key_small : (k : Key) → key_digit k ≤ 15
key_small (key.Digit digit) = chosen_small (nat_lt digit 10) digit blank_digit (decimal_small digit) (omega arith)
key_small key.Plus = omega arith
key_small key.Minus = omega arith
key_small key.Clr = omega arith
key_small key.Entr = omega arith
key_small key.ReadOut = omega arith
key_small key.Hold = omega arith

keys_small : (keys : List Key) → AreSmall (map key_digit keys)
keys_small [] = tt
keys_small (k ∷ keys) = (key_small k, keys_small keys)

padded_small : (width : ℕ) (digits : List ℕ) → AreSmall digits → AreSmall (padded width blank_digit digits)
unfolding padded
padded_small zero digits small = tt
padded_small (suc width) [] small = (omega arith, padded_small width [] tt)
padded_small (suc width) (digit ∷ digits) small = (small.0, padded_small width digits small.1)

spelled_small : (keys : List Key) → AreSmall (spelled key_digit blank_digit keys)
unfolding spelled
spelled_small keys = padded_small 9 (map key_digit (reverse keys)) (keys_small (reverse keys))

message_small : (whole : Bool) (keys : List Key) → AreSmall (if whole then spelled key_digit blank_digit keys else [])
message_small true keys = spelled_small keys
message_small false keys = tt

drop_small : (count : ℕ) (digits : List ℕ) → AreSmall digits → AreSmall (drop count digits)
drop_small zero digits small = small
drop_small (suc count) [] small = tt
drop_small (suc count) (digit ∷ digits) small = drop_small count digits small.1

pub unsent_small : (panel : List Happening) → AreSmall (unsent panel)
unfolding unsent
unsent_small panel =
    let since = since_clear panel in
    drop_small (sent_count since) (message (keys_of since)) (message_small (is_whole (keys_of since)) (keys_of since))

-- ---- what an act puts

-- the word that an act names is below 2 ^ 18
abbrev pub PutsWord : Act → Type 0
PutsWord (Puts address word) = word < 2 ^ 18
PutsWord _ = Unit {0}

-- the word that is put, where one is, is below 2 ^ 18
abbrev IsWordPut : Option PutWord → Type 0
IsWordPut None = Unit {0}
IsWordPut (Some put) = put.word < 2 ^ 18

abbrev IsSmallDigit : Option ℕ → Type 0
IsSmallDigit None = Unit {0}
IsSmallDigit (Some digit) = digit ≤ 15

next_small : (digits : List ℕ) → AreSmall digits → IsSmallDigit (next_digit digits)
next_small [] small = tt
next_small (digit ∷ digits) small = small.0

wanted_small : (wanted : Bool) (digit : Option ℕ) → IsSmallDigit digit → IsSmallDigit (if wanted then digit else None)
wanted_small true digit small = small
wanted_small false digit small = tt

digit_put : (machine : Machine) (digit : Option ℕ) → IsSmallDigit digit → IsWordPut (option_map (put_of_digit machine) digit)
digit_put machine None small = tt
digit_put machine (Some digit) small = omega (arith, small)

word_put : (machine : Machine) (b : Bench) (act : Act) → PutsWord act → IsWordPut (put_by machine b act)
word_put machine b (Puts address word) below = below
word_put machine b Feeds below = digit_put machine (next_digit (unsent b.panel)) (next_small (unsent b.panel) (unsent_small b.panel))
word_put machine b FeedsWhereZero below =
    digit_put machine (digit_taken machine b FeedsWhereZero)
    (wanted_small (wants_digit machine b.core) (next_digit (unsent b.panel)) (next_small (unsent b.panel) (unsent_small b.panel)))
word_put machine b _ below = tt

-- ---- what an act makes

steps_are : (count : ℕ) → AreEvents (replicate count event.Step)
steps_are zero = tt
steps_are (suc count) = (tt, steps_are count)

put_are : (put : Option PutWord) → IsWordPut put → AreEvents (put_events put)
put_are None is = tt
put_are (Some put) is = (is, tt)

put_made : (machine : Machine) (b : Bench) (act : Act) (events : List Event) → PutsWord act → events ≡ put_events (put_by machine b act) → AreEvents events
put_made machine b act events is same = subst AreEvents (sym same) (put_are (put_by machine b act) (word_put machine b act is))

steps_made : (count : ℕ) (events : List Event) → events ≡ replicate count event.Step → AreEvents events
steps_made count events same = subst AreEvents (sym same) (steps_are count)

made_are : (machine : Machine) (b : Bench) (act : Act) (events : List Event) (moments : List Moment) → PutsWord act → Makes machine b act events moments → AreEvents events
made_are machine b (MakesSteps count) events moments is p = steps_made count events p
made_are machine b Pulses events moments is p = subst AreEvents (sym p) (tt, tt)
made_are machine b RunsCycle events moments is p = steps_made (length moments) events p.steps
made_are machine b (Puts address word) events moments is p = put_made machine b (Puts address word) events is p
made_are machine b (Presses k) events moments is p = put_made machine b (Presses k) events is p
made_are machine b Feeds events moments is p = put_made machine b Feeds events is p
made_are machine b FeedsWhereZero events moments is p = put_made machine b FeedsWhereZero events is p
made_are machine b ShowsReg events moments is p = put_made machine b ShowsReg events is p
made_are machine b (ShowsCell address) events moments is p = put_made machine b (ShowsCell address) events is p
made_are machine b (ShowsOut address) events moments is p = put_made machine b (ShowsOut address) events is p
made_are machine b ShowsDeda events moments is p = put_made machine b ShowsDeda events is p

-- ---- what acts make

events-append : (first second : List Event) → AreEvents first → AreEvents second → AreEvents (first ++ second)
events-append [] second p r = r
events-append (event ∷ first) second p r = (p.0, events-append first second p.1 r)

module _ (machine : Machine) (guard : Option (Certificate Value)) where
  one_are : (b after : Bench) (act : Act) (stopped : Option PutWord) (GoesOn : Bench → List Event → List ℕ → Type 0) (events : List Event) (text : List ℕ) (met : Option PutWord) → PutsWord act
      → ((between : Bench) (later : List Event) (rest : List ℕ) → GoesOn between later rest → AreEvents later)
      → PlaysOne machine b act stopped GoesOn events text after met → AreEvents events
  one_are b after act (Some put) GoesOn events text met is on p = subst AreEvents (sym p.0) tt
  one_are b after act None GoesOn events text met is on p =
      subst AreEvents (sym p.events_are)
      (events-append p.made p.later (made_are machine b act p.made p.moments is p.does.makes) (on (bench_after machine b act p.moments) p.later p.rest p.goes_on))

  pub play_events : (b : Bench) (acts : List Act) (events : List Event) (text : List ℕ) (after : Bench) (met : Option PutWord) → AllByRecursion PutsWord acts
      → Plays machine guard b acts events text after met → AreEvents events
  play_events b [] events text after met put p = subst AreEvents (sym p.0) tt
  play_events b (act ∷ acts) events text after met put p =
      one_are b after act (stopped_by machine guard (put_by machine b act)) (λ between later rest. Plays machine guard between acts later rest after met) events text met put.0
      (λ between later rest q. play_events between acts later rest after met put.1 q) p

-- ---- what commands ask for

cycles_put : (count : ℕ) → AllByRecursion PutsWord (cycles count)
cycles_put zero = tt
cycles_put (suc count) = (tt, (tt, (tt, cycles_put count)))

command_puts : (c : Command) → NamesWord c → AllByRecursion PutsWord (acts_of_command c)
command_puts (command.Step count) is = (tt, tt)
command_puts command.Pulse is = (tt, tt)
command_puts (command.Set address word) is = (is, tt)
command_puts (command.Press k) is = (tt, tt)
command_puts command.Feed is = (tt, tt)
command_puts (command.Cycle count) is = cycles_put count
command_puts command.ShowReg is = (tt, tt)
command_puts (command.ShowCell address) is = (tt, tt)
command_puts (command.ShowOut address) is = (tt, tt)
command_puts command.ShowDeda is = (tt, tt)
command_puts _ is = tt

acts-append : (first second : List Act) → AllByRecursion PutsWord first → AllByRecursion PutsWord second → AllByRecursion PutsWord (first ++ second)
acts-append [] second p r = r
acts-append (act ∷ first) second p r = (p.0, acts-append first second p.1 r)

pub acts_put : (commands : List Command) → All NamesWord commands → AllByRecursion PutsWord (acts_of commands)
acts_put [] words = tt
acts_put (c ∷ commands) words =
    acts-append (acts_of_command c) (acts_of commands) (command_puts c (All-head NamesWord c commands words)) (acts_put commands (All-tail NamesWord c commands words))
