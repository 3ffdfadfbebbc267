-- How many steps and puts a play has. The crates above cite:
--     few_steps    no more than the steps that its commands count for
--     few_puts     no more than the commands and those steps together
use Rattle.std.proofs.Common.{◌≡◌, ℕ, zero, suc, ◌+◌, ◌*◌, ◌≤◌, Bool, cond, List, [], ◌∷◌, ◌++◌, length, replicate, refl, sym, ap, subst, ◌∙◌, arith}
use Rattle.std.specs.Prelude.{Option, Some, None, count_by, sum_by}
use Rattle.std.proofs.lemmas.List.Sums.{sum_by-append, sum_by-cons}
use Rattle.std.proofs.lemmas.List.Folds.{sum_by-replicate}
use Rattle.ags_domain.specs.declared.values.Value.{Value}
use Rattle.ags_ports.specs.declared.events.Event.{Event}
use Rattle.ags_ports.specs.declared.events.Event.TheVariants as event
use Rattle.ags_ports.specs.declared.machines.Machine.{Machine}
use Rattle.ags_ports.specs.Machine.{IsMachine}
use Rattle.ags_ports.specs.Run.{Moment}
use Rattle.ags_safe.specs.Certificate.{Certificate}
use Rattle.ags_script.specs.Command.{step_count}
use Rattle.ags_script.specs.declared.commands.Command.{Command}
use Rattle.ags_script.specs.declared.commands.Command.TheVariants as command
use Rattle.ags_script.specs.Limit.{cycle_steps}
use Rattle.ags_timed.proofs.TimedLemmas.{timed_few}
use Rattle.ags_play.specs.Act.{Act, MakesSteps, Pulses, Puts, Presses, Feeds, FeedsWhereZero, RunsCycle, ShowsReg, ShowsCell, ShowsOut, ShowsDeda, cycles, acts_of, acts_of_command}
use Rattle.ags_play.specs.Bench.{Bench}
use Rattle.ags_play.specs.Counted.{is_step, is_put}
use Rattle.ags_play.specs.Doing.{PutWord, Makes, put_by, put_events, bench_after, time_left}
use Rattle.ags_play.specs.Guard.{stopped_by}
use Rattle.ags_play.specs.Played.{Plays, PlaysOne}

-- ---- what an act makes

-- the most steps of an act
abbrev step_weight : Act → ℕ
step_weight (MakesSteps count) = count
step_weight RunsCycle = cycle_steps
step_weight _ = 0

-- the most puts of an act
abbrev put_weight : Act → ℕ
put_weight (Puts address word) = 1
put_weight Feeds = 1
put_weight FeedsWhereZero = 1
put_weight _ = 0

steps_counted : (count : ℕ) → count_by is_step (replicate count event.Step) ≡ count
steps_counted count = sum_by-replicate (λ e. cond (is_step e) 1 0) count event.Step ∙ omega arith

no_put_counted : (count : ℕ) → count_by is_put (replicate count event.Step) ≡ 0
no_put_counted count = sum_by-replicate (λ e. cond (is_put e) 1 0) count event.Step ∙ omega arith

no_step_put : (put : Option PutWord) → count_by is_step (put_events put) ≡ 0
no_step_put None = refl
no_step_put (Some put) = refl

one_put : (put : Option PutWord) → count_by is_put (put_events put) ≤ 1
one_put None = omega arith
one_put (Some put) = omega arith

abbrev FewSteps : ℕ → List Event → Type 0
FewSteps most events = count_by is_step events ≤ most

abbrev FewPuts : ℕ → List Event → Type 0
FewPuts most events = count_by is_put events ≤ most

none_stepped : (put : Option PutWord) (events : List Event) → events ≡ put_events put → FewSteps 0 events
none_stepped put events same = subst (FewSteps 0) (sym same) (omega (arith, no_step_put put))

one_act_steps : (machine : Machine) (b : Bench) (act : Act) (events : List Event) (moments : List Moment) → IsMachine machine → Makes machine b act events moments → FewSteps (step_weight act) events
one_act_steps machine b (MakesSteps count) events moments is p = subst (FewSteps count) (sym p) (omega (arith, steps_counted count))
one_act_steps machine b Pulses events moments is p = subst (FewSteps 0) (sym p) (omega arith)
one_act_steps machine b RunsCycle events moments is p =
    subst (FewSteps cycle_steps) (sym p.steps) (omega (arith, steps_counted (length moments), timed_few machine (time_left b.carry) b.core moments p.spent is p.timed))
one_act_steps machine b (Puts address word) events moments is p = none_stepped (put_by machine b (Puts address word)) events p
one_act_steps machine b (Presses key) events moments is p = none_stepped (put_by machine b (Presses key)) events p
one_act_steps machine b Feeds events moments is p = none_stepped (put_by machine b Feeds) events p
one_act_steps machine b FeedsWhereZero events moments is p = none_stepped (put_by machine b FeedsWhereZero) events p
one_act_steps machine b ShowsReg events moments is p = none_stepped (put_by machine b ShowsReg) events p
one_act_steps machine b (ShowsCell address) events moments is p = none_stepped (put_by machine b (ShowsCell address)) events p
one_act_steps machine b (ShowsOut address) events moments is p = none_stepped (put_by machine b (ShowsOut address)) events p
one_act_steps machine b ShowsDeda events moments is p = none_stepped (put_by machine b ShowsDeda) events p

one_act_puts : (machine : Machine) (b : Bench) (act : Act) (events : List Event) (moments : List Moment) → Makes machine b act events moments → FewPuts (put_weight act) events
one_act_puts machine b (MakesSteps count) events moments p = subst (FewPuts 0) (sym p) (omega (arith, no_put_counted count))
one_act_puts machine b Pulses events moments p = subst (FewPuts 0) (sym p) (omega arith)
one_act_puts machine b RunsCycle events moments p = subst (FewPuts 0) (sym p.steps) (omega (arith, no_put_counted (length moments)))
one_act_puts machine b (Puts address word) events moments p = subst (FewPuts 1) (sym p) (omega arith)
one_act_puts machine b (Presses key) events moments p = subst (FewPuts 0) (sym p) (omega arith)
one_act_puts machine b Feeds events moments p = subst (FewPuts 1) (sym p) (one_put (put_by machine b Feeds))
one_act_puts machine b FeedsWhereZero events moments p = subst (FewPuts 1) (sym p) (one_put (put_by machine b FeedsWhereZero))
one_act_puts machine b ShowsReg events moments p = subst (FewPuts 0) (sym p) (omega arith)
one_act_puts machine b (ShowsCell address) events moments p = subst (FewPuts 0) (sym p) (omega arith)
one_act_puts machine b (ShowsOut address) events moments p = subst (FewPuts 0) (sym p) (omega arith)
one_act_puts machine b ShowsDeda events moments p = subst (FewPuts 0) (sym p) (omega arith)

-- ---- what acts make

-- no act makes more events of a kind than its weight, so a play makes no more of it than the acts' weights together
module _ (machine : Machine) (guard : Option (Certificate Value)) (counted : Event → Bool) (weight : Act → ℕ)
    (each : (b : Bench) (act : Act) (events : List Event) (moments : List Moment) → Makes machine b act events moments → count_by counted events ≤ weight act) where
  abbrev Few : ℕ → List Event → Type 0
  Few most events = count_by counted events ≤ most

  joined_few : (first later : List Event) (most rest : ℕ) → Few most first → Few rest later → Few (most + rest) (first ++ later)
  joined_few first later most rest p q = omega (arith, p, q, sum_by-append (λ e. cond (counted e) 1 0) first later)

  one_few : (b after : Bench) (act : Act) (stopped : Option PutWord) (GoesOn : Bench → List Event → List ℕ → Type 0) (events : List Event) (text : List ℕ) (met : Option PutWord) (rest : ℕ)
      → ((between : Bench) (later : List Event) (line : List ℕ) → GoesOn between later line → Few rest later)
      → PlaysOne machine b act stopped GoesOn events text after met → Few (weight act + rest) events
  one_few b after act (Some put) GoesOn events text met rest on p = subst (Few (weight act + rest)) (sym p.0) (omega arith)
  one_few b after act None GoesOn events text met rest on p =
      subst (Few (weight act + rest)) (sym p.events_are)
      (joined_few p.made p.later (weight act) rest (each b act p.made p.moments p.does.makes) (on (bench_after machine b act p.moments) p.later p.rest p.goes_on))

  few_of_acts : (b after : Bench) (acts : List Act) (events : List Event) (text : List ℕ) (met : Option PutWord) → Plays machine guard b acts events text after met → Few (sum_by weight acts) events
  few_of_acts b after [] events text met p = subst (Few 0) (sym p.0) (omega arith)
  few_of_acts b after (act ∷ acts) events text met p =
      let few = one_few b after act (stopped_by machine guard (put_by machine b act)) (λ between later rest. Plays machine guard between acts later rest after met) events text met (sum_by weight acts)
      (λ between later rest goes_on. few_of_acts between after acts later rest met goes_on) p in
      subst (λ (most : ℕ). Few most events) (sym (sum_by-cons weight act acts)) few

-- ---- what commands ask for

-- so many for each act of a command are so many for those of all
module _ (weight : Act → ℕ) (most : Command → ℕ) (each : (command : Command) → sum_by weight (acts_of_command command) ≤ most command) where
  weight_of_acts : (commands : List Command) → sum_by weight (acts_of commands) ≤ sum_by most commands
  weight_of_acts [] = omega arith
  weight_of_acts (command ∷ commands) = omega (
    arith,
    sum_by-append weight (acts_of_command command) (acts_of commands),
    sum_by-cons most command commands,
    each command,
    weight_of_acts commands,
  )

-- a cycle's three acts in front of others
of_cycle : (weight : Act → ℕ) (acts : List Act) → sum_by weight (FeedsWhereZero ∷ Pulses ∷ RunsCycle ∷ acts) ≡ weight FeedsWhereZero + (weight Pulses + (weight RunsCycle + sum_by weight acts))
of_cycle weight acts =
    sum_by-cons weight FeedsWhereZero (Pulses ∷ RunsCycle ∷ acts)
    ∙ ap (λ (n : ℕ). weight FeedsWhereZero + n) (sum_by-cons weight Pulses (RunsCycle ∷ acts) ∙ ap (λ (n : ℕ). weight Pulses + n) (sum_by-cons weight RunsCycle acts))

steps_of_cycles : (count : ℕ) → sum_by step_weight (cycles count) ≡ cycle_steps * count
steps_of_cycles zero = refl
steps_of_cycles (suc count) = omega (arith, of_cycle step_weight (cycles count), steps_of_cycles count)

puts_of_cycles : (count : ℕ) → sum_by put_weight (cycles count) ≡ count
puts_of_cycles zero = refl
puts_of_cycles (suc count) = omega (arith, of_cycle put_weight (cycles count), puts_of_cycles count)

command_steps : (c : Command) → sum_by step_weight (acts_of_command c) ≤ step_count c
command_steps (command.Step count) = omega arith
command_steps (command.Cycle count) = omega (arith, steps_of_cycles count)
command_steps (command.Start address) = omega arith
command_steps (command.Cell address word) = omega arith
command_steps (command.Port address word) = omega arith
command_steps command.Pulse = omega arith
command_steps (command.Set address word) = omega arith
command_steps (command.Press key) = omega arith
command_steps command.Feed = omega arith
command_steps command.ShowReg = omega arith
command_steps (command.ShowCell address) = omega arith
command_steps (command.ShowOut address) = omega arith
command_steps command.ShowDeda = omega arith

command_puts : (c : Command) → sum_by put_weight (acts_of_command c) ≤ 1 + step_count c
command_puts (command.Step count) = omega arith
command_puts (command.Cycle count) = omega (arith, puts_of_cycles count)
command_puts (command.Start address) = omega arith
command_puts (command.Cell address word) = omega arith
command_puts (command.Port address word) = omega arith
command_puts command.Pulse = omega arith
command_puts (command.Set address word) = omega arith
command_puts (command.Press key) = omega arith
command_puts command.Feed = omega arith
command_puts command.ShowReg = omega arith
command_puts (command.ShowCell address) = omega arith
command_puts (command.ShowOut address) = omega arith
command_puts command.ShowDeda = omega arith

-- one for each command, and its steps
one_more_each : (commands : List Command) → sum_by (λ c. 1 + step_count c) commands ≡ length commands + sum_by step_count commands
one_more_each [] = refl
one_more_each (command ∷ commands) = omega (
  arith,
  sum_by-cons (λ c. 1 + step_count c) command commands,
  sum_by-cons step_count command commands,
  one_more_each commands,
)

module _ (machine : Machine) (guard : Option (Certificate Value)) where
  pub few_steps : (b after : Bench) (commands : List Command) (events : List Event) (text : List ℕ) (met : Option PutWord) → IsMachine machine
      → Plays machine guard b (acts_of commands) events text after met → count_by is_step events ≤ sum_by step_count commands
  few_steps b after commands events text met is p = omega (
    arith,
    few_of_acts machine guard is_step step_weight (λ c act es moments makes. one_act_steps machine c act es moments is makes) b after (acts_of commands) events text met p,
    weight_of_acts step_weight step_count command_steps commands,
  )

  pub few_puts : (b after : Bench) (commands : List Command) (events : List Event) (text : List ℕ) (met : Option PutWord)
      → Plays machine guard b (acts_of commands) events text after met → count_by is_put events ≤ length commands + sum_by step_count commands
  few_puts b after commands events text met p = omega (
    arith,
    few_of_acts machine guard is_put put_weight (one_act_puts machine) b after (acts_of commands) events text met p,
    weight_of_acts put_weight (λ c. 1 + step_count c) command_puts commands,
    one_more_each commands,
  )
