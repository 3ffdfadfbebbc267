-- The time of a step is that of the order that it reads. The crates above cite:
--     time-named, time-idle              by a report: the time of the order that its word names, and 0 where none ran
--     time-most                          it is at most 1000 microseconds
--     time-read, time-least              by a step: the time of the order that it reads, at least one microsecond
--     time-other, time-unread, time-halts    0 at another event, where no order is read, and where the step halts
use Rattle.std.proofs.Common.{◌≡◌, ◌≢◌, ℕ, ◌≤◌, ◌/◌, ◌^◌, Bool, true, false, List, Option, Some, None, refl, sym, subst, ◌∙◌, inl, inr, arith}
use Rattle.std.specs.Option.{option_map_or}
use Rattle.std.proofs.lemmas.Bool.{cases_Bool}
use Rattle.ags_isa.specs.declared.orders.Order.{Order}
use Rattle.ags_isa.specs.Order.{order_number}
use Rattle.ags_isa.specs.Code.{order_of}
use Rattle.ags_isa.specs.Naming.{Names}
use Rattle.ags_isa.proofs.CodeLemmas.{order_of-code}
use Rattle.ags_isa.proofs.OrderLemmas.{order_number-below}
use Rattle.ags_isa.proofs.WordLemmas.{code_over}
use Rattle.ags_ports.specs.declared.events.Phase.TheVariants.{Running, Halted}
use Rattle.ags_ports.specs.declared.events.Event.{Event}
use Rattle.ags_ports.specs.declared.events.Event.TheVariants.{Step}
use Rattle.ags_ports.specs.declared.events.Done.{Done}
use Rattle.ags_ports.specs.declared.machines.Machine.{Machine}
use Rattle.ags_ports.specs.Time.{AreTimes, time_of}
use Rattle.ags_ports.specs.Machine.{IsMachine}
use Rattle.ags_ports.specs.State.{State}
use Rattle.ags_ports.specs.Step.{Steps, Reads}
use Rattle.ags_ports.specs.OrderTime.{order_time}
use Rattle.ags_ports.proofs.ChangeLemmas.{ran_reads, reads_ran, here_told}
use Rattle.ags_ports.proofs.HaltLemmas.{no_order_halts}

-- ---- by a report

pub time-named : (machine : Machine) (report : Done) (order : Order) (indexed : Bool) (address : ℕ) → IsMachine machine → report.ran ≡ true
    → Names machine.codes report.word order indexed address → order_time machine report ≡ time_of machine.times order
unfolding order_time
time-named machine report order indexed address is ran names =
    let coded = code_over machine.codes report.word order indexed address names in
    let found = order_of-code machine.codes (report.word / 2 ^ 13) is.codes order (sym coded) in
    rw (ran, found) refl

pub time-idle : (machine : Machine) (report : Done) → report.ran ≡ false → order_time machine report ≡ 0
unfolding order_time
time-idle machine report none = rw none refl

time_below : (times : List ℕ) → AreTimes times → (found : Option Order) → option_map_or (time_of times) found 0 ≤ 1000
time_below times are None = omega arith
time_below times are (Some order) = are.most (order_number order) 0 (rw are.each (order_number-below order))

time_above : (times : List ℕ) → AreTimes times → (order : Order) → 1 ≤ time_of times order
time_above times are order = are.least (order_number order) 0 (rw are.each (order_number-below order))

pub time-most : (machine : Machine) (report : Done) → IsMachine machine → order_time machine report ≤ 1000
unfolding order_time
time-most machine report is = elim (cases_Bool report.ran) [
  | inl ran ↦ rw ran (time_below machine.times is.times (order_of machine.codes (report.word / 2 ^ 13)))
  | inr none ↦ rw none (omega arith)
]

-- where no order can have run
time_unless : (machine : Machine) (report : Done) → (report.ran ≡ true → ⊥) → order_time machine report ≡ 0
time_unless machine report never = elim (cases_Bool report.ran) [
  | inl ran ↦ absurd (never ran)
  | inr none ↦ time-idle machine report none
]

running_halted : Running ≡ Halted → ⊥
running_halted same = cc

module _ (machine : Machine) (s : State) where
  -- ---- by a step

  pub time-read : (order : Order) (report : Done) (after : State) → IsMachine machine → Reads machine s order → Steps machine s Step report after
      → order_time machine report ≡ time_of machine.times order
  time-read order report after is reads step =
      let here = here_told machine s Step report after step in
      let ran = reads_ran machine s order report after reads step in
      time-named machine report order reads.indexed reads.address is ran
      (subst (λ (word : ℕ). Names machine.codes word order reads.indexed reads.address) (sym here.1) reads.names)

  pub time-least : (event : Event) (report : Done) (after : State) → IsMachine machine → Steps machine s event report after → report.ran ≡ true → 1 ≤ order_time machine report
  time-least event report after is step ran =
      let read = ran_reads machine s event report after step ran in
      let here : Steps machine s Step report after = subst (λ (e : Event). Steps machine s e report after) read.0 step in
      rw (time-read read.1 report after is read.2 here) (time_above machine.times is.times read.1)

  pub time-other : (event : Event) (report : Done) (after : State) → Steps machine s event report after → event ≢ Step → order_time machine report ≡ 0
  time-other event report after step other = time_unless machine report (λ ran. other (ran_reads machine s event report after step ran).0)

  pub time-unread : (event : Event) (report : Done) (after : State) → Steps machine s event report after → ((order : Order) → ¬ Reads machine s order) → order_time machine report ≡ 0
  time-unread event report after step none = time_unless machine report (λ ran. let read = ran_reads machine s event report after step ran in none read.1 read.2)

  pub time-halts : (event : Event) (report : Done) (after : State) → Steps machine s event report after → after.phase ≡ Halted → order_time machine report ≡ 0
  time-halts event report after step halted = time_unless machine report (λ ran.
      let read = ran_reads machine s event report after step ran in
      let ran_on : s.phase ≢ Halted = λ was. running_halted (sym read.2.running ∙ was) in
      (no_order_halts machine s event report after step ran_on halted).2 read.1 read.2.indexed read.2.address read.2.names)
