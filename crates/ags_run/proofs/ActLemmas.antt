-- One act that was made: what the panel heard along its steps, and what is counted. The other proofs of the crate cite:
--     seen_address                            the panel listens where it did
--     steps_made, pulse_made, cycle_made      the acts that no guard stops
--     idle_panel                              an event that runs no order: the panel hears nothing
--     counted_on, counted_none                what is counted further, and a count that stays
--     at_stood                                what holds of the bench that the code's stands for
use Rattle.std.proofs.Common.{◌≡◌, ℕ, zero, suc, ◌+◌, ◌<◌, List, [], ◌∷◌, length, replicate, refl, sym, ap, subst, ◌∙◌, arith}
use Rattle.std.specs.Prelude.{Bool, true, false, ◌&&◌, ◌==◌, ◌%◌, ◌^◌, cond, count_by, is_some, Option, Some, None, if◌then◌else◌}
use Rattle.std.proofs.Math.Nat.{mod-add-mod}
use Rattle.std.proofs.lemmas.List.Sums.{sum_by-append}
use Rattle.ags_deda.specs.Happening.{Happening}
use Rattle.ags_deda.specs.Standing.{StandsFor}
use Rattle.ags_play.specs.Act.{MakesSteps, Pulses, RunsCycle}
use Rattle.ags_play.specs.Bench as play
use Rattle.ags_play.specs.Counted.{is_step, is_put}
use Rattle.ags_play.specs.Doing.{digit_given, panel_along, with_shown, time_left, carry_in}
use Rattle.ags_ports.specs.declared.events.Event.{Event}
use Rattle.ags_ports.specs.declared.events.Event.TheVariants as event
use Rattle.ags_ports.specs.declared.events.Done.{Done}
use Rattle.ags_ports.specs.declared.events.Stored.{Stored}
use Rattle.ags_ports.specs.declared.machines.Machine.{Machine}
use Rattle.ags_ports.specs.Port.{position_of}
use Rattle.ags_ports.specs.Run.{Moment, Run, last_state}
use Rattle.ags_ports.specs.State.{State}
use Rattle.ags_ports.specs.Step.{Steps, idle_report}
use Rattle.ags_timed.specs.Timed.{LooksAt, RunsFor, RunsSteps}
use Rattle.ags_run.specs.declared.benches.Bench.{Bench}
use Rattle.ags_run.specs.declared.listeners.Listener.{Listener}
use Rattle.ags_run.specs.Acted.{AreCounted, ActMade}
use Rattle.ags_run.specs.Hearing.{Hears, heard, listening}
use Rattle.ags_run.specs.Standing.{StandsAs}

-- ---- what the panel hears

both : (same there : Bool) (digit : ℕ) → there ≡ true → (if same then Some digit else None) ≡ (if same && there then Some digit else None)
both true there digit is = rw is refl
both false there digit is = refl

neither : (same there : Bool) (digit : ℕ) → there ≡ false → None ≡ (if same && there then Some digit else None)
neither true there digit is = rw is refl
neither false there digit is = refl

heard_there : (machine : Machine) (there : Bool) (gave : Option Stored) → is_some (position_of machine.ports.outputs machine.deda_out) ≡ there
    → heard (if there then Some machine.deda_out else None) gave ≡ digit_given machine gave
heard_there machine true None is = refl
heard_there machine false None is = refl
heard_there machine true (Some gave) is = both (gave.address == machine.deda_out) (is_some (position_of machine.ports.outputs machine.deda_out)) (gave.word % 16) is
heard_there machine false (Some gave) is = neither (gave.address == machine.deda_out) (is_some (position_of machine.ports.outputs machine.deda_out)) (gave.word % 16) is

-- a panel that listens where the machine has its register hears what the definition gives it
heard_given : (machine : Machine) (address : Option ℕ) (gave : Option Stored) → address ≡ listening machine → heard address gave ≡ digit_given machine gave
heard_given machine address gave is = ap (λ (a : Option ℕ). heard a gave) is ∙ heard_there machine (is_some (position_of machine.ports.outputs machine.deda_out)) gave refl

pub seen_address : (moments : List Moment) (old new : Listener) → LooksAt Hears old moments new → new.address ≡ old.address
seen_address [] old new p = ap (λ (l : Listener). l.address) p
seen_address (moment ∷ moments) old new p = seen_address moments p.0 new p.2 ∙ p.1.address

seen_panel : (machine : Machine) (moments : List Moment) (old new : Listener) (happenings : List Happening) → old.address ≡ listening machine → LooksAt Hears old moments new
    → StandsFor old.panel happenings → StandsFor new.panel (panel_along machine happenings moments)
seen_panel machine [] old new happenings at p stands = subst (λ (l : Listener). StandsFor l.panel happenings) (sym p) stands
seen_panel machine (moment ∷ moments) old new happenings at p stands =
    let shown = subst (λ (digit : Option ℕ). StandsFor p.0.panel (with_shown happenings digit)) (heard_given machine old.address moment.report.gave at) (p.1.panel happenings stands) in
    seen_panel machine moments p.0 new (with_shown happenings (digit_given machine moment.report.gave)) (p.1.address ∙ at) p.2 shown

-- ---- what is counted

pub counted_on : (start mid end first second : ℕ) → mid ≡ (start + first) % 2 ^ 64 → end ≡ (mid + second) % 2 ^ 64 → end ≡ (start + (first + second)) % 2 ^ 64
counted_on start mid end first second early late =
    let sum : start + first + second ≡ start + (first + second) = omega arith in
    late ∙ ap (λ (n : ℕ). (n + second) % 2 ^ 64) early ∙ mod-add-mod (start + first) (2 ^ 64) second ∙ ap (λ (n : ℕ). n % 2 ^ 64) sum

pub counted_none : (start end : ℕ) → start < 2 ^ 64 → end ≡ start → end ≡ (start + 0) % 2 ^ 64
counted_none start end fits same = omega arith

seen_steps : (moments : List Moment) (old new : Listener) → LooksAt Hears old moments new → new.steps ≡ (old.steps + length moments) % 2 ^ 64
seen_steps [] old new p = counted_none old.steps new.steps old.counted (ap (λ (l : Listener). l.steps) p)
seen_steps (moment ∷ moments) old new p =
    let all = counted_on old.steps p.0.steps new.steps 1 (length moments) p.1.steps (seen_steps moments p.0 new p.2) in
    let size : 1 + length moments ≡ suc (length moments) = omega arith in
    all ∙ ap (λ (n : ℕ). (old.steps + n) % 2 ^ 64) size

steps_among : (count : ℕ) → count_by is_step (replicate count event.Step) ≡ count
steps_among zero = refl
steps_among (suc count) = omega (arith, sum_by-append (λ (e : Event). cond (is_step e) 1 0) (event.Step ∷ []) (replicate count event.Step), steps_among count)

puts_among : (count : ℕ) → count_by is_put (replicate count event.Step) ≡ 0
puts_among zero = refl
puts_among (suc count) = omega (arith, sum_by-append (λ (e : Event). cond (is_put e) 1 0) (event.Step ∷ []) (replicate count event.Step), puts_among count)

steps_are_many : (machine : Machine) (s : State) (count : ℕ) (moments : List Moment) → Run machine s (replicate count event.Step) moments → length moments ≡ count
steps_are_many machine s zero [] p = refl
steps_are_many machine s zero (moment ∷ moments) p = absurd p
steps_are_many machine s (suc count) [] p = absurd p
steps_are_many machine s (suc count) (moment ∷ moments) p = ap suc (steps_are_many machine moment.after count moments p.1)

steps_counted : (before after : Bench) (count : ℕ) → after.listener.steps ≡ (before.listener.steps + count) % 2 ^ 64 → after.puts ≡ before.puts
    → AreCounted before after (replicate count event.Step)
steps_counted before after count steps puts = record {
  steps = steps ∙ ap (λ (n : ℕ). (before.listener.steps + n) % 2 ^ 64) (sym (steps_among count));
  puts = counted_none before.puts after.puts before.counted puts ∙ ap (λ (n : ℕ). (before.puts + n) % 2 ^ 64) (sym (puts_among count));
}

-- ---- over the bench that the code's bench stands for

-- two benches with the same state and the same carry are one
same_bench : (core other : State) (panel : List Happening) (carry another : ℕ) → core ≡ other → carry ≡ another
    → ◌≡◌ {A = play.Bench} (record { core = core; panel = panel; carry = carry }) (record { core = other; panel = panel; carry = another })
same_bench core other panel carry another p q = cc

-- what holds of the bench with the code's state and carry holds of the one that the code's stands for
pub at_stood : (P : play.Bench → Type 0) (bench : Bench) (b : play.Bench) → StandsAs bench b → P (record { core = bench.core; panel = b.panel; carry = bench.carry }) → P b
at_stood P bench b stands holds = subst P (same_bench bench.core b.core b.panel bench.carry b.carry stands.core stands.carry) holds

-- ---- acts that no guard stops

pub steps_made : (machine : Machine) (count : ℕ) (before after : Bench) → before.listener.address ≡ listening machine
    → RunsSteps Hears machine count before.core before.listener after.core after.listener → after.carry ≡ before.carry → after.puts ≡ before.puts
    → (b : play.Bench) → StandsAs before b → ActMade machine b (MakesSteps count) before after
steps_made machine count before after at run carry puts b stands = at_stood (λ (x : play.Bench). ActMade machine x (MakesSteps count) before after) before b stands (record {
  events = replicate count event.Step;
  moments = run.moments;
  does = record { makes = refl; run = run.run };
  stands = record { core = run.ends; panel = seen_panel machine run.moments before.listener after.listener b.panel at run.seen stands.panel; carry = carry };
  counted = steps_counted before after count
      (seen_steps run.moments before.listener after.listener run.seen ∙ ap (λ (n : ℕ). (before.listener.steps + n) % 2 ^ 64) (steps_are_many machine before.core count run.moments run.run)) puts;
})

pub cycle_made : (machine : Machine) (spent : ℕ) (before after : Bench) → before.listener.address ≡ listening machine
    → RunsFor Hears machine (time_left before.carry) before.core before.listener after.core after.listener spent
    → after.carry ≡ carry_in after.core.phase (time_left before.carry) spent → after.puts ≡ before.puts
    → (b : play.Bench) → StandsAs before b → ActMade machine b RunsCycle before after
cycle_made machine spent before after at run carry puts b stands = at_stood (λ (x : play.Bench). ActMade machine x RunsCycle before after) before b stands (record {
  events = replicate (length run.moments) event.Step;
  moments = run.moments;
  does = record { makes = record { spent = spent; timed = run.timed; steps = refl }; run = run.timed.run };
  stands = record {
    core = run.ends;
    panel = seen_panel machine run.moments before.listener after.listener b.panel at run.seen stands.panel;
    carry = carry ∙ ap (λ (s : State). carry_in s.phase (time_left before.carry) spent) run.ends ∙ ap (carry_in (last_state before.core run.moments).phase (time_left before.carry)) run.timed.time;
  };
  counted = steps_counted before after (length run.moments) (seen_steps run.moments before.listener after.listener run.seen) puts;
})

-- an event that runs no order: the panel hears nothing
pub idle_panel : (machine : Machine) (s : State) (report : Done) (after : State) (happenings : List Happening) → report ≡ idle_report s
    → panel_along machine happenings (record { report = report; after = after } ∷ []) ≡ happenings
idle_panel machine s report after happenings idle = ap (λ (r : Done). with_shown happenings (digit_given machine r.gave)) idle

pub pulse_made : (machine : Machine) (report : Done) (before after : Bench) → Steps machine before.core event.Pulse report after.core
    → after.listener ≡ before.listener → after.carry ≡ before.carry → after.puts ≡ before.puts
    → (b : play.Bench) → StandsAs before b → ActMade machine b Pulses before after
pulse_made machine report before after step listener carry puts b stands = at_stood (λ (x : play.Bench). ActMade machine x Pulses before after) before b stands (record {
  events = event.Pulse ∷ [];
  moments = record { report = report; after = after.core } ∷ [];
  does = record { makes = refl; run = (step, tt) };
  stands = record {
    core = refl;
    panel = subst (λ (hs : List Happening). StandsFor after.listener.panel hs) (sym (idle_panel machine before.core report after.core b.panel step.0))
        (subst (λ (l : Listener). StandsFor l.panel b.panel) (sym listener) stands.panel);
    carry = carry;
  };
  counted = record {
    steps = counted_none before.listener.steps after.listener.steps before.listener.counted (ap (λ (l : Listener). l.steps) listener);
    puts = counted_none before.puts after.puts before.counted puts;
  };
})
