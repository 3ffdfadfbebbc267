-- DLY alone begins waiting, and always does, and a word that is no order alone halts. The crates above cite:
--     dly_leads_to_waiting               a step that runs DLY leaves the machine waiting
use Rattle.std.proofs.Common.{◌≡◌, ◌≢◌, ℕ, refl, sym, ap, subst, ◌∙◌, ◌⊎◌, ⊎_elim, inl, inr}
use Rattle.std.specs.Prelude.{Bool, true, false, Option, Some, None, nat_eq, int_lt, pos, if◌then◌else◌}
use Rattle.ags_word.specs.Word.{val}
use Rattle.ags_isa.specs.declared.orders.Order.{Order}
use Rattle.ags_isa.specs.declared.orders.Order.TheVariants.{Abs, Add, Adz, Als, Axt, Cla, Clz, Com, Dly, Dvp, Inp, Ldq, Lls, Lrs, Mpr, Mpy, Mpz, Out, Sto, Stq, Sub, Suz, Tix, Tmi, Tov, Tra, Tsq}
use Rattle.ags_isa.specs.declared.decoding.Decoded.{Decoded}
use Rattle.ags_isa.specs.Code.{AreCodes}
use Rattle.ags_isa.specs.Naming.{Names, IsDecoding}
use Rattle.ags_isa.proofs.WordLemmas.{names-one}
use Rattle.ags_ports.specs.declared.events.Phase.{Phase}
use Rattle.ags_ports.specs.declared.events.Phase.TheVariants.{Running, Waiting, Halted}
use Rattle.ags_ports.specs.declared.events.Event.{Event}
use Rattle.ags_ports.specs.declared.events.Event.TheVariants.{Step, Pulse, Put}
use Rattle.ags_ports.specs.declared.events.Done.{Done}
use Rattle.ags_ports.specs.declared.machines.Machine.{Machine}
use Rattle.ags_ports.specs.Machine.{IsMachine}
use Rattle.ags_ports.specs.State.{State, word_here}
use Rattle.ags_ports.specs.Effect.{effect, effective}
use Rattle.ags_ports.specs.Step.{Obeys, StepsIn, Steps, Reads, NamesNone, idle_report, phase_after_pulse}

chosen_phase : (b : Bool) (t u : State) (phase : Phase) → t.phase ≡ phase → u.phase ≡ phase → (if b then t else u).phase ≡ phase
chosen_phase true t u phase p r = p
chosen_phase false t u phase p r = r

-- an order lets the phase be, or it is DLY
effect_phase : (machine : Machine) (s : State) (order : Order) (e y : ℕ)
    → ((effect machine s order e y).after.phase ≡ s.phase) ⊎ ((order ≡ Dly) × ((effect machine s order e y).after.phase ≡ Waiting))
effect_phase machine s Cla e y = inl refl
effect_phase machine s Ldq e y = inl refl
effect_phase machine s Sto e y = inl refl
effect_phase machine s Stq e y = inl refl
effect_phase machine s Add e y = inl refl
effect_phase machine s Sub e y = inl refl
effect_phase machine s Clz e y = inl refl
effect_phase machine s Adz e y = inl refl
effect_phase machine s Suz e y = inl refl
effect_phase machine s Com e y = inl refl
effect_phase machine s Abs e y = inl refl
effect_phase machine s Als e y = inl refl
effect_phase machine s Mpy e y = inl refl
effect_phase machine s Mpr e y = inl refl
effect_phase machine s Mpz e y = inl refl
effect_phase machine s Dvp e y = inl refl
effect_phase machine s Lrs e y = inl refl
effect_phase machine s Lls e y = inl refl
effect_phase machine s Tra e y = inl refl
effect_phase machine s Tmi e y = inl (chosen_phase (int_lt (val s.a) (pos 0)) _ _ s.phase refl refl)
effect_phase machine s Tov e y = inl (chosen_phase s.indicator _ _ s.phase refl refl)
effect_phase machine s Tix e y = inl (chosen_phase (nat_eq s.index 0) _ _ s.phase refl refl)
effect_phase machine s Axt e y = inl refl
effect_phase machine s Tsq e y = inl refl
effect_phase machine s Inp e y = inl refl
effect_phase machine s Out e y = inl refl
effect_phase machine s Dly e y = inr (refl, refl)

running_waits : Running ≡ Waiting → ⊥
running_waits h = cc

running_halted : Running ≡ Halted → ⊥
running_halted h = cc

waiting_halted : Waiting ≡ Halted → ⊥
waiting_halted h = cc

halted_waits : Halted ≡ Waiting → ⊥
halted_waits h = cc

pulsed_waits : (phase : Phase) → phase_after_pulse phase ≡ Waiting → ⊥
pulsed_waits Running h = running_waits h
pulsed_waits Waiting h = running_waits h
pulsed_waits Halted h = halted_waits h

pulsed_halts : (phase : Phase) → phase_after_pulse phase ≡ Halted → phase ≡ Halted
pulsed_halts Running h = absurd (running_halted h)
pulsed_halts Waiting h = absurd (running_halted h)
pulsed_halts Halted h = refl

module _ (machine : Machine) (s : State) where
  -- ---- DLY alone begins waiting

  obeys_waits : (named : Option Decoded) (report : Done) (after : State) → s.phase ≡ Running → IsDecoding machine.codes (word_here s) named
      → Obeys machine s named report after → after.phase ≡ Waiting → Reads machine s Dly
  obeys_waits (Some d) report after running names p waits = ⊎_elim
      (λ same. absurd (running_waits (sym running ∙ sym same ∙ sym (ap (λ (v : State). v.phase) p.1) ∙ waits)))
      (λ dly. record { running = running; indexed = d.indexed; address = d.address; names = subst (λ (o : Order). Names machine.codes (word_here s) o d.indexed d.address) dly.0 names })
      (effect_phase machine s d.order (effective s d.order d.indexed d.address) d.address)
  obeys_waits None report after running names p waits = absurd (halted_waits (sym (ap (λ (v : State). v.phase) p.1) ∙ waits))

  step_in_waits : (phase : Phase) (report : Done) (after : State) → s.phase ≡ phase → s.phase ≢ Waiting
      → StepsIn phase machine s report after → after.phase ≡ Waiting → Reads machine s Dly
  step_in_waits Running report after is before p waits = obeys_waits p.0 report after is p.1 p.2 waits
  step_in_waits Waiting report after is before p waits = absurd (before is)
  step_in_waits Halted report after is before p waits = absurd (before (sym (ap (λ (v : State). v.phase) p.1) ∙ waits))

  pub dly_waits : (event : Event) (report : Done) (after : State) → Steps machine s event report after
      → s.phase ≢ Waiting → after.phase ≡ Waiting → (event ≡ Step) × Reads machine s Dly
  dly_waits Step report after p before waits = (refl, step_in_waits s.phase report after refl before p waits)
  dly_waits Pulse report after p before waits = absurd (pulsed_waits s.phase (sym (ap (λ (v : State). v.phase) p.1) ∙ waits))
  dly_waits (Put address word) report after p before waits = absurd (before (sym (ap (λ (v : State). v.phase) p.1) ∙ waits))

  -- ---- and DLY always does

  obeys_dly : (named : Option Decoded) (report : Done) (after : State) → AreCodes machine.codes → Reads machine s Dly
      → IsDecoding machine.codes (word_here s) named → Obeys machine s named report after → after.phase ≡ Waiting
  obeys_dly (Some d) report after are reads names p =
      let same = names-one machine.codes are (word_here s) d.order Dly d.indexed reads.indexed d.address reads.address names reads.names in
      ap (λ (v : State). v.phase) p.1
      ∙ ap (λ (o : Order). (effect machine s o (effective s d.order d.indexed d.address) d.address).after.phase) same.0
  obeys_dly None report after are reads none p = absurd (none Dly reads.indexed reads.address reads.names)

  pub dly_leads_to_waiting : (report : Done) (after : State) → IsMachine machine → Reads machine s Dly
      → Steps machine s Step report after → after.phase ≡ Waiting
  dly_leads_to_waiting report after is reads p =
      let q = subst (λ (phase : Phase). StepsIn phase machine s report after) reads.running p in
      obeys_dly q.0 report after is.codes reads q.1 q.2

  -- ---- a word that is no order alone halts

  obeys_halts : (named : Option Decoded) (report : Done) (after : State) → s.phase ≡ Running → IsDecoding machine.codes (word_here s) named
      → Obeys machine s named report after → after.phase ≡ Halted → NamesNone machine s
  obeys_halts (Some d) report after running names p halts = ⊎_elim
      (λ same. absurd (running_halted (sym running ∙ sym same ∙ sym (ap (λ (v : State). v.phase) p.1) ∙ halts)))
      (λ dly. absurd (waiting_halted (sym dly.1 ∙ sym (ap (λ (v : State). v.phase) p.1) ∙ halts)))
      (effect_phase machine s d.order (effective s d.order d.indexed d.address) d.address)
  obeys_halts None report after running none p halts = none

  step_in_halts : (phase : Phase) (report : Done) (after : State) → s.phase ≡ phase → s.phase ≢ Halted
      → StepsIn phase machine s report after → after.phase ≡ Halted → (s.phase ≡ Running) × NamesNone machine s
  step_in_halts Running report after is before p halts = (is, obeys_halts p.0 report after is p.1 p.2 halts)
  step_in_halts Waiting report after is before p halts = absurd (before (sym (ap (λ (v : State). v.phase) p.1) ∙ halts))
  step_in_halts Halted report after is before p halts = absurd (before is)

  pub no_order_halts : (event : Event) (report : Done) (after : State) → Steps machine s event report after
      → s.phase ≢ Halted → after.phase ≡ Halted → (event ≡ Step) × (s.phase ≡ Running) × NamesNone machine s
  no_order_halts Step report after p before halts =
      let there = step_in_halts s.phase report after refl before p halts in (refl, there.0, there.1)
  no_order_halts Pulse report after p before halts = absurd (before (pulsed_halts s.phase (sym (ap (λ (v : State). v.phase) p.1) ∙ halts)))
  no_order_halts (Put address word) report after p before halts = absurd (before (sym (ap (λ (v : State). v.phase) p.1) ∙ halts))

  -- ---- and there nothing else changes

  obeys_none : (named : Option Decoded) (report : Done) (after : State) → IsDecoding machine.codes (word_here s) named
      → Obeys machine s named report after → NamesNone machine s → (report ≡ idle_report s) × (after ≡ record s { phase = Halted })
  obeys_none (Some d) report after names p none = absurd (none d.order d.indexed d.address names)
  obeys_none None report after names p none = p

  pub halted_at_no_order : (report : Done) (after : State) → s.phase ≡ Running → NamesNone machine s
      → Steps machine s Step report after → (report ≡ idle_report s) × (after ≡ record s { phase = Halted })
  halted_at_no_order report after running none p =
      let q = subst (λ (phase : Phase). StepsIn phase machine s report after) running p in
      obeys_none q.0 report after q.1 q.2 none
