-- What a step tells says what it did to the cells and the registers, and when an order runs.
use Rattle.std.proofs.Common.{◌≡◌, ℕ, true, false, refl, sym, ap, ◌∙◌}
use Rattle.std.specs.Prelude.{Bool, Option, Some, None, nat_eq, int_lt, pos, if◌then◌else◌}
use Rattle.ags_word.specs.Word.{val}
use Rattle.ags_isa.specs.declared.orders.Order.{Order}
use Rattle.ags_isa.specs.declared.orders.Order.TheVariants.{Abs, Add, Adz, Als, Axt, Cla, Clz, Com, Dly, Dvp, Inp, Ldq, Lls, Lrs, Mpr, Mpy, Mpz, Out, Sto, Stq, Sub, Suz, Tix, Tmi, Tov, Tra, Tsq}
use Rattle.ags_isa.specs.declared.decoding.Decoded.{Decoded}
use Rattle.ags_isa.specs.Naming.{IsDecoding}
use Rattle.ags_ports.specs.declared.events.Phase.{Phase}
use Rattle.ags_ports.specs.declared.events.Phase.TheVariants.{Running, Waiting, Halted}
use Rattle.ags_ports.specs.declared.events.Event.{Event}
use Rattle.ags_ports.specs.declared.events.Event.TheVariants.{Step, Pulse, Put}
use Rattle.ags_ports.specs.declared.events.Done.{Done}
use Rattle.ags_ports.specs.declared.machines.Machine.{Machine}
use Rattle.ags_ports.specs.State.{State, word_here}
use Rattle.ags_ports.specs.Effect.{Effect, effect, effective, leaves}
use Rattle.ags_ports.specs.Change.{cells_after_store, inputs_after_take, outputs_after_give}
use Rattle.ags_ports.specs.Step.{Obeys, StepsIn, Steps, Reads, idle_report}

-- an effect changes the cells and the registers as it tells
record IsTold (machine : Machine) (s : State) (does : Effect) : Type 0 where
  cells : does.after.cells ≡ cells_after_store s.cells does.stored
  inputs : does.after.inputs ≡ inputs_after_take machine.ports.inputs s.inputs does.took
  outputs : does.after.outputs ≡ outputs_after_give machine.ports.outputs s.outputs does.gave

told_choice : (machine : Machine) (s : State) (b : Bool) (t u : State) → IsTold machine s (leaves t) → IsTold machine s (leaves u)
    → IsTold machine s (leaves (if b then t else u))
told_choice machine s true t u p r = p
told_choice machine s false t u p r = r

effect_told : (machine : Machine) (s : State) (order : Order) (e y : ℕ) → IsTold machine s (effect machine s order e y)
effect_told machine s Cla e y = record { cells = refl; inputs = refl; outputs = refl }
effect_told machine s Ldq e y = record { cells = refl; inputs = refl; outputs = refl }
effect_told machine s Sto e y = record { cells = refl; inputs = refl; outputs = refl }
effect_told machine s Stq e y = record { cells = refl; inputs = refl; outputs = refl }
effect_told machine s Add e y = record { cells = refl; inputs = refl; outputs = refl }
effect_told machine s Sub e y = record { cells = refl; inputs = refl; outputs = refl }
effect_told machine s Clz e y = record { cells = refl; inputs = refl; outputs = refl }
effect_told machine s Adz e y = record { cells = refl; inputs = refl; outputs = refl }
effect_told machine s Suz e y = record { cells = refl; inputs = refl; outputs = refl }
effect_told machine s Com e y = record { cells = refl; inputs = refl; outputs = refl }
effect_told machine s Abs e y = record { cells = refl; inputs = refl; outputs = refl }
effect_told machine s Als e y = record { cells = refl; inputs = refl; outputs = refl }
effect_told machine s Mpy e y = record { cells = refl; inputs = refl; outputs = refl }
effect_told machine s Mpr e y = record { cells = refl; inputs = refl; outputs = refl }
effect_told machine s Mpz e y = record { cells = refl; inputs = refl; outputs = refl }
effect_told machine s Dvp e y = record { cells = refl; inputs = refl; outputs = refl }
effect_told machine s Lrs e y = record { cells = refl; inputs = refl; outputs = refl }
effect_told machine s Lls e y = record { cells = refl; inputs = refl; outputs = refl }
effect_told machine s Tra e y = record { cells = refl; inputs = refl; outputs = refl }
effect_told machine s Tmi e y = told_choice machine s (int_lt (val s.a) (pos 0)) _ _
    (record { cells = refl; inputs = refl; outputs = refl }) (record { cells = refl; inputs = refl; outputs = refl })
effect_told machine s Tov e y = told_choice machine s s.indicator _ _
    (record { cells = refl; inputs = refl; outputs = refl }) (record { cells = refl; inputs = refl; outputs = refl })
effect_told machine s Tix e y = told_choice machine s (nat_eq s.index 0) _ _
    (record { cells = refl; inputs = refl; outputs = refl }) (record { cells = refl; inputs = refl; outputs = refl })
effect_told machine s Axt e y = record { cells = refl; inputs = refl; outputs = refl }
effect_told machine s Tsq e y = record { cells = refl; inputs = refl; outputs = refl }
effect_told machine s Inp e y = record { cells = refl; inputs = refl; outputs = refl }
effect_told machine s Out e y = record { cells = refl; inputs = refl; outputs = refl }
effect_told machine s Dly e y = record { cells = refl; inputs = refl; outputs = refl }

-- ---- and so does each step

-- what is told and what is left are those of an effect that tells what it changes
record Tells (machine : Machine) (s : State) (report : Done) (after : State) : Type 0 where
  cells : after.cells ≡ cells_after_store s.cells report.stored
  inputs : after.inputs ≡ inputs_after_take machine.ports.inputs s.inputs report.took
  outputs : after.outputs ≡ outputs_after_give machine.ports.outputs s.outputs report.gave

-- ---- when an order runs

differ : true ≡ false → ⊥
differ h = cc

-- where nothing else is told than where the machine stands, no order ran
idle_ran : (s : State) (report : Done) → report ≡ idle_report s → report.ran ≡ true → ⊥
idle_ran s report told ran = differ (sym ran ∙ ap (λ (v : Done). v.ran) told)

waits_not : Running ≡ Waiting → ⊥
waits_not h = cc

halts_not : Running ≡ Halted → ⊥
halts_not h = cc

-- the location and its word are told, as they were before the event
abbrev TellsHere : State → Done → Type 0
TellsHere s report = (report.location ≡ s.location) × (report.word ≡ word_here s)

module _ (machine : Machine) (s : State) where
  unchanged_told : (report : Done) (after : State) → report ≡ idle_report s → after.cells ≡ s.cells → after.inputs ≡ s.inputs
      → after.outputs ≡ s.outputs → Tells machine s report after
  unchanged_told report after told cells inputs outputs = record {
    cells = cells ∙ sym (ap (λ (v : Done). cells_after_store s.cells v.stored) told);
    inputs = inputs ∙ sym (ap (λ (v : Done). inputs_after_take machine.ports.inputs s.inputs v.took) told);
    outputs = outputs ∙ sym (ap (λ (v : Done). outputs_after_give machine.ports.outputs s.outputs v.gave) told);
  }

  obeys_told : (named : Option Decoded) (report : Done) (after : State) → Obeys machine s named report after → Tells machine s report after
  obeys_told (Some d) report after p =
      let told = effect_told machine s d.order (effective s d.order d.indexed d.address) d.address in
      record {
        cells = ap (λ (v : State). v.cells) p.1 ∙ told.cells ∙ sym (ap (λ (v : Done). cells_after_store s.cells v.stored) p.0);
        inputs = ap (λ (v : State). v.inputs) p.1 ∙ told.inputs ∙ sym (ap (λ (v : Done). inputs_after_take machine.ports.inputs s.inputs v.took) p.0);
        outputs = ap (λ (v : State). v.outputs) p.1 ∙ told.outputs ∙ sym (ap (λ (v : Done). outputs_after_give machine.ports.outputs s.outputs v.gave) p.0);
      }
  obeys_told None report after p = unchanged_told report after p.0 (ap (λ (v : State). v.cells) p.1) (ap (λ (v : State). v.inputs) p.1) (ap (λ (v : State). v.outputs) p.1)

  step_in_told : (phase : Phase) (report : Done) (after : State) → StepsIn phase machine s report after → Tells machine s report after
  step_in_told Running report after p = obeys_told p.0 report after p.2
  step_in_told Waiting report after p = unchanged_told report after p.0 (ap (λ (v : State). v.cells) p.1) (ap (λ (v : State). v.inputs) p.1) (ap (λ (v : State). v.outputs) p.1)
  step_in_told Halted report after p = unchanged_told report after p.0 (ap (λ (v : State). v.cells) p.1) (ap (λ (v : State). v.inputs) p.1) (ap (λ (v : State). v.outputs) p.1)

  pub cells_told : (event : Event) (report : Done) (after : State) → Steps machine s event report after
      → after.cells ≡ cells_after_store s.cells report.stored
  cells_told Step report after p = (step_in_told s.phase report after p).cells
  cells_told Pulse report after p = ap (λ (v : State). v.cells) p.1 ∙ sym (ap (λ (v : Done). cells_after_store s.cells v.stored) p.0)
  cells_told (Put address word) report after p = ap (λ (v : State). v.cells) p.1 ∙ sym (ap (λ (v : Done). cells_after_store s.cells v.stored) p.0)

  pub inputs_told : (report : Done) (after : State) → Steps machine s Step report after
      → after.inputs ≡ inputs_after_take machine.ports.inputs s.inputs report.took
  inputs_told report after p = (step_in_told s.phase report after p).inputs

  pub outputs_told : (event : Event) (report : Done) (after : State) → Steps machine s event report after
      → after.outputs ≡ outputs_after_give machine.ports.outputs s.outputs report.gave
  outputs_told Step report after p = (step_in_told s.phase report after p).outputs
  outputs_told Pulse report after p = ap (λ (v : State). v.outputs) p.1 ∙ sym (ap (λ (v : Done). outputs_after_give machine.ports.outputs s.outputs v.gave) p.0)
  outputs_told (Put address word) report after p = ap (λ (v : State). v.outputs) p.1 ∙ sym (ap (λ (v : Done). outputs_after_give machine.ports.outputs s.outputs v.gave) p.0)

  obeys_reads : (named : Option Decoded) (report : Done) (after : State) → s.phase ≡ Running → IsDecoding machine.codes (word_here s) named
      → Obeys machine s named report after → report.ran ≡ true → (order : Order) × Reads machine s order
  obeys_reads (Some d) report after running names p ran =
      (d.order, record { running = running; indexed = d.indexed; address = d.address; names = names })
  obeys_reads None report after running names p ran = absurd (idle_ran s report p.0 ran)

  step_in_reads : (phase : Phase) (report : Done) (after : State) → s.phase ≡ phase → StepsIn phase machine s report after
      → report.ran ≡ true → (order : Order) × Reads machine s order
  step_in_reads Running report after is p ran = obeys_reads p.0 report after is p.1 p.2 ran
  step_in_reads Waiting report after is p ran = absurd (idle_ran s report p.0 ran)
  step_in_reads Halted report after is p ran = absurd (idle_ran s report p.0 ran)

  pub ran_reads : (event : Event) (report : Done) (after : State) → Steps machine s event report after
      → report.ran ≡ true → (event ≡ Step) × (order : Order) × Reads machine s order
  ran_reads Step report after p ran =
      let read = step_in_reads s.phase report after refl p ran in (refl, read.0, read.1)
  ran_reads Pulse report after p ran = absurd (idle_ran s report p.0 ran)
  ran_reads (Put address word) report after p ran = absurd (idle_ran s report p.0 ran)

  obeys_ran : (named : Option Decoded) (report : Done) (after : State) (order : Order) → Reads machine s order
      → IsDecoding machine.codes (word_here s) named → Obeys machine s named report after → report.ran ≡ true
  obeys_ran (Some d) report after order reads names p = ap (λ (v : Done). v.ran) p.0
  obeys_ran None report after order reads none p = absurd (none order reads.indexed reads.address reads.names)

  step_in_ran : (phase : Phase) (report : Done) (after : State) (order : Order) → s.phase ≡ phase → Reads machine s order
      → StepsIn phase machine s report after → report.ran ≡ true
  step_in_ran Running report after order is reads p = obeys_ran p.0 report after order reads p.1 p.2
  step_in_ran Waiting report after order is reads p = absurd (waits_not (sym reads.running ∙ is))
  step_in_ran Halted report after order is reads p = absurd (halts_not (sym reads.running ∙ is))

  pub reads_ran : (order : Order) (report : Done) (after : State) → Reads machine s order → Steps machine s Step report after
      → report.ran ≡ true
  reads_ran order report after reads p = step_in_ran s.phase report after order refl reads p

  -- ---- what is told where none runs

  obeys_idle : (named : Option Decoded) (report : Done) (after : State) → Obeys machine s named report after → report.ran ≡ false → report ≡ idle_report s
  obeys_idle (Some d) report after p none = absurd (differ (sym (ap (λ (v : Done). v.ran) p.0) ∙ none))
  obeys_idle None report after p none = p.0

  step_in_idle : (phase : Phase) (report : Done) (after : State) → StepsIn phase machine s report after → report.ran ≡ false → report ≡ idle_report s
  step_in_idle Running report after p none = obeys_idle p.0 report after p.2 none
  step_in_idle Waiting report after p none = p.0
  step_in_idle Halted report after p none = p.0

  pub idle_told : (event : Event) (report : Done) (after : State) → Steps machine s event report after → report.ran ≡ false → report ≡ idle_report s
  idle_told Step report after p none = step_in_idle s.phase report after p none
  idle_told Pulse report after p none = p.0
  idle_told (Put address word) report after p none = p.0

  obeys_here : (named : Option Decoded) (report : Done) (after : State) → Obeys machine s named report after → TellsHere s report
  obeys_here (Some d) report after p = (ap (λ (v : Done). v.location) p.0, ap (λ (v : Done). v.word) p.0)
  obeys_here None report after p = (ap (λ (v : Done). v.location) p.0, ap (λ (v : Done). v.word) p.0)

  step_here : (phase : Phase) (report : Done) (after : State) → StepsIn phase machine s report after → TellsHere s report
  step_here Running report after p = obeys_here p.0 report after p.2
  step_here Waiting report after p = (ap (λ (v : Done). v.location) p.0, ap (λ (v : Done). v.word) p.0)
  step_here Halted report after p = (ap (λ (v : Done). v.location) p.0, ap (λ (v : Done). v.word) p.0)

  pub here_told : (event : Event) (report : Done) (after : State) → Steps machine s event report after
      → (report.location ≡ s.location) × (report.word ≡ word_here s)
  here_told Step report after p = step_here s.phase report after p
  here_told Pulse report after p = (ap (λ (v : Done). v.location) p.0, ap (λ (v : Done). v.word) p.0)
  here_told (Put address word) report after p = (ap (λ (v : Done). v.location) p.0, ap (λ (v : Done). v.word) p.0)
