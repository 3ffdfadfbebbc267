-- How many steps and puts a bench run has. The crates above cite:
--     few_steps    no more than the steps that the script's lines count for
--     few_puts     no more than the words that they may put
use Rattle.std.proofs.Common.{◌≡◌, ℕ, zero, suc, ◌+◌, ◌*◌, ◌≤◌, Bool, cond, List, [], ◌∷◌, ◌++◌, length, replicate, refl, sym, ap, subst, ◌∙◌, arith}
use Rattle.std.specs.Prelude.{Option, Some, None, count_by, sum_by}
use Rattle.std.proofs.lemmas.List.Sums.{sum_by-append, sum_by-cons}
use Rattle.std.proofs.lemmas.List.Folds.{sum_by-replicate}
use Rattle.std.proofs.Math.Nat.{suc-mul}
use Rattle.ags_benchscript.specs.Command.{step_count}
use Rattle.ags_benchscript.specs.Script.{steps_of}
use Rattle.ags_benchscript.specs.declared.commands.BenchCommand.{BenchCommand}
use Rattle.ags_benchscript.specs.declared.commands.BenchCommand.TheVariants as command
use Rattle.ags_domain.specs.declared.values.Value.{Value}
use Rattle.ags_play.specs.Counted.{is_step, is_put}
use Rattle.ags_play.specs.Doing.{PutWord, put_events, time_left}
use Rattle.ags_ports.specs.declared.events.Event.{Event}
use Rattle.ags_ports.specs.declared.events.Event.TheVariants as event
use Rattle.ags_ports.specs.declared.machines.Machine.{Machine}
use Rattle.ags_ports.specs.Machine.{IsMachine}
use Rattle.ags_ports.specs.Run.{Moment}
use Rattle.ags_safe.specs.Certificate.{Certificate}
use Rattle.ags_timed.proofs.TimedLemmas.{timed_few}
use Rattle.ags_drive.specs.Act.{Act, MakesStep, Pulses, RunsCycle, Feeds, FeedsInCycle, ShowsReg, ShowsCell, ShowsOut, Detaches, ShowsDevice, at_each, cycles, acts_of, acts_of_command, acts_of_script}
use Rattle.ags_drive.specs.Bench.{Bench}
use Rattle.ags_drive.specs.Counted.{put_count, puts_of}
use Rattle.ags_drive.specs.Doing.{Makes, put_by, bench_after}
use Rattle.ags_drive.specs.Played.{Plays, IsPoint}

-- ---- what an act makes

-- the most steps of an act
abbrev step_weight : Act → ℕ
step_weight MakesStep = 1
step_weight RunsCycle = 20000
step_weight _ = 0

-- the most puts of an act
abbrev put_weight : Act → ℕ
put_weight (Feeds line number) = 1
put_weight (FeedsInCycle position) = 1
put_weight _ = 0

steps_counted : (count : ℕ) → count_by is_step (replicate count event.Step) ≡ count
steps_counted count = sum_by-replicate (λ e. cond (is_step e) 1 0) count event.Step ∙ omega arith

no_put_counted : (count : ℕ) → count_by is_put (replicate count event.Step) ≡ 0
no_put_counted count = sum_by-replicate (λ e. cond (is_put e) 1 0) count event.Step ∙ omega arith

no_step_put : (put : Option PutWord) → count_by is_step (put_events put) ≡ 0
no_step_put None = refl
no_step_put (Some put) = refl

one_put : (put : Option PutWord) → count_by is_put (put_events put) ≤ 1
one_put None = omega arith
one_put (Some put) = omega arith

abbrev FewSteps : ℕ → List Event → Type 0
FewSteps most events = count_by is_step events ≤ most

abbrev FewPuts : ℕ → List Event → Type 0
FewPuts most events = count_by is_put events ≤ most

none_stepped : (put : Option PutWord) (events : List Event) → events ≡ put_events put → FewSteps 0 events
none_stepped put events same = subst (FewSteps 0) (sym same) (omega (arith, no_step_put put))

one_act_steps : (machine : Machine) (b : Bench) (act : Act) (events : List Event) (moments : List Moment) → IsMachine machine → Makes machine b act events moments → FewSteps (step_weight act) events
one_act_steps machine b MakesStep events moments is p = subst (FewSteps 1) (sym p) (omega arith)
one_act_steps machine b Pulses events moments is p = subst (FewSteps 0) (sym p) (omega arith)
one_act_steps machine b RunsCycle events moments is p =
    subst (FewSteps 20000) (sym p.steps) (omega (arith, steps_counted (length moments), timed_few machine (time_left b.carry) b.core moments p.spent is p.timed))
one_act_steps machine b (Feeds line number) events moments is p = none_stepped (put_by machine b (Feeds line number)) events p
one_act_steps machine b (FeedsInCycle position) events moments is p = none_stepped (put_by machine b (FeedsInCycle position)) events p
one_act_steps machine b ShowsReg events moments is p = none_stepped (put_by machine b ShowsReg) events p
one_act_steps machine b (ShowsCell address) events moments is p = none_stepped (put_by machine b (ShowsCell address)) events p
one_act_steps machine b (ShowsOut address) events moments is p = none_stepped (put_by machine b (ShowsOut address)) events p
one_act_steps machine b (Detaches line number) events moments is p = none_stepped (put_by machine b (Detaches line number)) events p
one_act_steps machine b (ShowsDevice position) events moments is p = none_stepped (put_by machine b (ShowsDevice position)) events p

one_act_puts : (machine : Machine) (b : Bench) (act : Act) (events : List Event) (moments : List Moment) → Makes machine b act events moments → FewPuts (put_weight act) events
one_act_puts machine b MakesStep events moments p = subst (FewPuts 0) (sym p) (omega arith)
one_act_puts machine b Pulses events moments p = subst (FewPuts 0) (sym p) (omega arith)
one_act_puts machine b RunsCycle events moments p = subst (FewPuts 0) (sym p.steps) (omega (arith, no_put_counted (length moments)))
one_act_puts machine b (Feeds line number) events moments p = subst (FewPuts 1) (sym p) (one_put (put_by machine b (Feeds line number)))
one_act_puts machine b (FeedsInCycle position) events moments p = subst (FewPuts 1) (sym p) (one_put (put_by machine b (FeedsInCycle position)))
one_act_puts machine b ShowsReg events moments p = subst (FewPuts 0) (sym p) (omega arith)
one_act_puts machine b (ShowsCell address) events moments p = subst (FewPuts 0) (sym p) (omega arith)
one_act_puts machine b (ShowsOut address) events moments p = subst (FewPuts 0) (sym p) (omega arith)
one_act_puts machine b (Detaches line number) events moments p = subst (FewPuts 0) (sym p) (omega arith)
one_act_puts machine b (ShowsDevice position) events moments p = subst (FewPuts 0) (sym p) (omega arith)

-- ---- what acts make

-- no act makes more events of a kind than its weight, so acts make no more of it than their weights together
module _ (machine : Machine) (cert : Certificate Value) (counted : Event → Bool) (weight : Act → ℕ)
    (each : (b : Bench) (act : Act) (events : List Event) (moments : List Moment) → Makes machine b act events moments → count_by counted events ≤ weight act) where
  abbrev Few : ℕ → List Event → Type 0
  Few most events = count_by counted events ≤ most

  joined_few : (first later : List Event) (most rest : ℕ) → Few most first → Few rest later → Few (most + rest) (first ++ later)
  joined_few first later most rest p q = omega (arith, p, q, sum_by-append (λ e. cond (counted e) 1 0) first later)

  few_of_acts : (b here : Bench) (acts : List Act) (events : List Event) (text : List ℕ) → Plays machine cert b acts events text here → Few (sum_by weight acts) events
  few_of_acts b here [] events text p = subst (Few 0) (sym p.0) (omega arith)
  few_of_acts b here (act ∷ acts) events text p =
      let few = joined_few p.made p.later (weight act) (sum_by weight acts) (each b act p.made p.moments p.does.makes) (few_of_acts (bench_after machine b act p.moments) here acts p.later p.rest p.goes_on) in
      subst (λ (most : ℕ). Few most events) (sym (sum_by-cons weight act acts)) (subst (Few (weight act + sum_by weight acts)) (sym p.events_are) few)

  few_at_point : (b here : Bench) (acts done rest : List Act) (events : List Event) (text : List ℕ) → IsPoint machine cert b acts events text here done rest → Few (sum_by weight acts) events
  few_at_point b here acts done rest events text p = omega (
    arith,
    few_of_acts b here done events text p.plays,
    sum_by-append weight done rest,
    ap (λ (xs : List Act). sum_by weight xs) p.acts_are,
  )

-- ---- what lines ask for

-- an act at each position, of which none weighs anything, and of which each weighs one
none_at_each : (weight : Act → ℕ) (act : ℕ → Act) → ((position : ℕ) → weight (act position) ≡ 0) → (positions : ℕ) → sum_by weight (at_each act positions) ≡ 0
none_at_each weight act none zero = refl
none_at_each weight act none (suc positions) = omega (
  arith,
  sum_by-append weight (at_each act positions) (act positions ∷ []),
  sum_by-cons weight (act positions) [],
  none positions,
  none_at_each weight act none positions,
)

one_at_each : (weight : Act → ℕ) (act : ℕ → Act) → ((position : ℕ) → weight (act position) ≡ 1) → (positions : ℕ)
    → sum_by weight (at_each act positions) ≡ positions
one_at_each weight act one zero = refl
one_at_each weight act one (suc positions) = omega (
  arith,
  sum_by-append weight (at_each act positions) (act positions ∷ []),
  sum_by-cons weight (act positions) [],
  one positions,
  one_at_each weight act one positions,
)

-- a cycle's acts before others
of_cycle : (weight : Act → ℕ) (positions count : ℕ) → sum_by weight (cycles positions (suc count)) ≡ (sum_by weight (at_each FeedsInCycle positions) + (weight Pulses + weight RunsCycle)) + sum_by weight (cycles positions count)
of_cycle weight positions count = omega (
  arith,
  sum_by-append weight (at_each FeedsInCycle positions ++ Pulses ∷ RunsCycle ∷ []) (cycles positions count),
  sum_by-append weight (at_each FeedsInCycle positions) (Pulses ∷ RunsCycle ∷ []),
  sum_by-cons weight Pulses (RunsCycle ∷ []),
  sum_by-cons weight RunsCycle [],
)

steps_of_cycles : (positions count : ℕ) → sum_by step_weight (cycles positions count) ≡ 20000 * count
steps_of_cycles positions zero = refl
steps_of_cycles positions (suc count) = omega (arith, of_cycle step_weight positions count, none_at_each step_weight FeedsInCycle (λ position. refl) positions, steps_of_cycles positions count)

puts_of_cycles : (positions count : ℕ) → sum_by put_weight (cycles positions count) ≡ count * positions
puts_of_cycles positions zero = omega arith
puts_of_cycles positions (suc count) =
    let counted : sum_by put_weight (cycles positions (suc count)) ≡ sum_by put_weight (cycles positions count) + positions =
    omega (arith, of_cycle put_weight positions count, one_at_each put_weight FeedsInCycle (λ position. refl) positions) in
    counted ∙ ap (λ (n : ℕ). n + positions) (puts_of_cycles positions count) ∙ sym (suc-mul count positions)

steps_made : (count : ℕ) → sum_by step_weight (replicate count MakesStep) ≡ count
steps_made count = sum_by-replicate step_weight count MakesStep ∙ omega arith

no_puts_made : (count : ℕ) → sum_by put_weight (replicate count MakesStep) ≡ 0
no_puts_made count = sum_by-replicate put_weight count MakesStep ∙ omega arith

command_steps : (positions line : ℕ) (c : BenchCommand) → sum_by step_weight (acts_of_command positions line c) ≤ step_count c
command_steps positions line (command.Step count) = omega (arith, steps_made count)
command_steps positions line (command.Cycle count) = omega (arith, steps_of_cycles positions count)
command_steps positions line command.Pulse = omega arith
command_steps positions line command.ShowReg = omega arith
command_steps positions line (command.ShowCell address) = omega arith
command_steps positions line (command.ShowOut address) = omega arith
command_steps positions line (command.Feed number) = omega arith
command_steps positions line (command.Detach number) = omega arith

command_puts : (positions line : ℕ) (c : BenchCommand) → sum_by put_weight (acts_of_command positions line c) ≤ put_count positions c
command_puts positions line (command.Step count) = omega (arith, no_puts_made count)
command_puts positions line (command.Cycle count) =
    let same = puts_of_cycles positions count in subst (λ (n : ℕ). n ≤ count * positions) (sym same) (omega arith)
command_puts positions line command.Pulse = omega arith
command_puts positions line command.ShowReg = omega arith
command_puts positions line (command.ShowCell address) = omega arith
command_puts positions line (command.ShowOut address) = omega arith
command_puts positions line (command.Feed number) = omega arith
command_puts positions line (command.Detach number) = omega arith

-- so many for each line's acts are so many for those of all
module _ (weight : Act → ℕ) (most : BenchCommand → ℕ) (positions : ℕ) (each : (line : ℕ) (c : BenchCommand) → sum_by weight (acts_of_command positions line c) ≤ most c) where
  abbrev most_of : ℕ × BenchCommand → ℕ
  most_of line = most line.1

  weight_of_acts : (lines : List (ℕ × BenchCommand)) → sum_by weight (acts_of positions lines) ≤ sum_by most_of lines
  weight_of_acts [] = omega arith
  weight_of_acts (line ∷ lines) = omega (
    arith,
    sum_by-append weight (acts_of_command positions line.0 line.1) (acts_of positions lines),
    sum_by-cons most_of line lines,
    each line.0 line.1,
    weight_of_acts lines,
  )

  weight_of_script : ((position : ℕ) → weight (ShowsDevice position) ≡ 0) → (lines : List (ℕ × BenchCommand)) → sum_by weight (acts_of_script positions lines) ≤ sum_by most_of lines
  weight_of_script none lines = omega (
    arith,
    sum_by-append weight (acts_of positions lines) (at_each ShowsDevice positions),
    none_at_each weight ShowsDevice none positions,
    weight_of_acts lines,
  )

module _ (machine : Machine) (cert : Certificate Value) where
  pub few_steps : (b here : Bench) (positions : ℕ) (lines : List (ℕ × BenchCommand)) (done rest : List Act) (events : List Event) (text : List ℕ) → IsMachine machine
      → IsPoint machine cert b (acts_of_script positions lines) events text here done rest → count_by is_step events ≤ steps_of lines
  few_steps b here positions lines done rest events text is p = omega (
    arith,
    few_at_point machine cert is_step step_weight (λ c act es moments makes. one_act_steps machine c act es moments is makes) b here (acts_of_script positions lines) done rest events text p,
    weight_of_script step_weight step_count positions (command_steps positions) (λ position. refl) lines,
  )

  pub few_puts : (b here : Bench) (positions : ℕ) (lines : List (ℕ × BenchCommand)) (done rest : List Act) (events : List Event) (text : List ℕ)
      → IsPoint machine cert b (acts_of_script positions lines) events text here done rest → count_by is_put events ≤ puts_of positions lines
  few_puts b here positions lines done rest events text p = omega (
    arith,
    few_at_point machine cert is_put put_weight (one_act_puts machine) b here (acts_of_script positions lines) done rest events text p,
    weight_of_script put_weight (put_count positions) positions (command_puts positions) (λ position. refl) lines,
  )
