-- An order that overflows sets the indicator, nothing else does, and TOV alone clears it.
use Rattle.std.proofs.Common.{◌≡◌, ◌≢◌, ℕ, true, false, refl, sym, ap, subst, ◌∙◌, ◌⊎◌, ⊎_elim, inl, inr}
use Rattle.std.specs.Prelude.{Bool, Option, Some, None, nat_eq, int_lt, pos, ◌||◌, if◌then◌else◌}
use Rattle.ags_word.specs.Word.{val}
use Rattle.ags_isa.specs.declared.orders.Order.{Order}
use Rattle.ags_isa.specs.declared.orders.Order.TheVariants.{Abs, Add, Adz, Als, Axt, Cla, Clz, Com, Dly, Dvp, Inp, Ldq, Lls, Lrs, Mpr, Mpy, Mpz, Out, Sto, Stq, Sub, Suz, Tix, Tmi, Tov, Tra, Tsq}
use Rattle.ags_isa.specs.declared.decoding.Decoded.{Decoded}
use Rattle.ags_isa.specs.Naming.{Names, IsDecoding}
use Rattle.ags_ports.specs.declared.events.Phase.{Phase}
use Rattle.ags_ports.specs.declared.events.Phase.TheVariants.{Running, Waiting, Halted}
use Rattle.ags_ports.specs.declared.events.Event.{Event}
use Rattle.ags_ports.specs.declared.events.Event.TheVariants.{Step, Pulse, Put}
use Rattle.ags_ports.specs.declared.events.Done.{Done}
use Rattle.ags_ports.specs.declared.machines.Machine.{Machine}
use Rattle.ags_ports.specs.State.{State, word_here}
use Rattle.ags_ports.specs.Effect.{Effect, effect, effective}
use Rattle.ags_ports.specs.Step.{Obeys, StepsIn, Steps, Reads}

-- the indicator stays where it was set, and is set where the order overflows
abbrev Keeps : State → Effect → Type 0
Keeps s does = does.after.indicator ≡ (s.indicator || does.overflow)

or_nothing : (b : Bool) → b ≡ (b || false)
or_nothing true = refl
or_nothing false = refl

chosen_indicator : (b : Bool) (t u : State) (indicator : Bool) → t.indicator ≡ indicator → u.indicator ≡ indicator → (if b then t else u).indicator ≡ (indicator || false)
chosen_indicator true t u indicator p r = p ∙ or_nothing indicator
chosen_indicator false t u indicator p r = r ∙ or_nothing indicator

effect_indicator : (machine : Machine) (s : State) (order : Order) (e y : ℕ) → order ≢ Tov → Keeps s (effect machine s order e y)
effect_indicator machine s Cla e y other = or_nothing s.indicator
effect_indicator machine s Ldq e y other = or_nothing s.indicator
effect_indicator machine s Sto e y other = or_nothing s.indicator
effect_indicator machine s Stq e y other = or_nothing s.indicator
effect_indicator machine s Add e y other = refl
effect_indicator machine s Sub e y other = refl
effect_indicator machine s Clz e y other = or_nothing s.indicator
effect_indicator machine s Adz e y other = refl
effect_indicator machine s Suz e y other = refl
effect_indicator machine s Com e y other = refl
effect_indicator machine s Abs e y other = refl
effect_indicator machine s Als e y other = refl
effect_indicator machine s Mpy e y other = refl
effect_indicator machine s Mpr e y other = refl
effect_indicator machine s Mpz e y other = refl
effect_indicator machine s Dvp e y other = refl
effect_indicator machine s Lrs e y other = refl
effect_indicator machine s Lls e y other = refl
effect_indicator machine s Tra e y other = or_nothing s.indicator
effect_indicator machine s Tmi e y other = chosen_indicator (int_lt (val s.a) (pos 0)) _ _ s.indicator refl refl
effect_indicator machine s Tov e y other = absurd (other refl)
effect_indicator machine s Tix e y other = chosen_indicator (nat_eq s.index 0) _ _ s.indicator refl refl
effect_indicator machine s Axt e y other = or_nothing s.indicator
effect_indicator machine s Tsq e y other = or_nothing s.indicator
effect_indicator machine s Inp e y other = or_nothing s.indicator
effect_indicator machine s Out e y other = or_nothing s.indicator
effect_indicator machine s Dly e y other = or_nothing s.indicator

-- ---- an order that overflows sets it

or_true : (a b : Bool) → b ≡ true → (a || b) ≡ true
or_true true b h = refl
or_true false b h = h

-- whether the order is TOV
tov_or_not : (order : Order) → (order ≡ Tov) ⊎ (order ≢ Tov)
tov_or_not Tov = inl refl
tov_or_not Abs = inr (λ h. cc)
tov_or_not Add = inr (λ h. cc)
tov_or_not Adz = inr (λ h. cc)
tov_or_not Als = inr (λ h. cc)
tov_or_not Axt = inr (λ h. cc)
tov_or_not Cla = inr (λ h. cc)
tov_or_not Clz = inr (λ h. cc)
tov_or_not Com = inr (λ h. cc)
tov_or_not Dly = inr (λ h. cc)
tov_or_not Dvp = inr (λ h. cc)
tov_or_not Inp = inr (λ h. cc)
tov_or_not Ldq = inr (λ h. cc)
tov_or_not Lls = inr (λ h. cc)
tov_or_not Lrs = inr (λ h. cc)
tov_or_not Mpr = inr (λ h. cc)
tov_or_not Mpy = inr (λ h. cc)
tov_or_not Mpz = inr (λ h. cc)
tov_or_not Out = inr (λ h. cc)
tov_or_not Sto = inr (λ h. cc)
tov_or_not Stq = inr (λ h. cc)
tov_or_not Sub = inr (λ h. cc)
tov_or_not Suz = inr (λ h. cc)
tov_or_not Tix = inr (λ h. cc)
tov_or_not Tmi = inr (λ h. cc)
tov_or_not Tra = inr (λ h. cc)
tov_or_not Tsq = inr (λ h. cc)

effect_sets : (machine : Machine) (s : State) (order : Order) (e y : ℕ) → (effect machine s order e y).overflow ≡ true → ((effect machine s order e y).after).indicator ≡ true
effect_sets machine s order e y over = ⊎_elim
    (λ tov. absurd (let h : (effect machine s Tov e y).overflow ≡ true = subst (λ (o : Order). (effect machine s o e y).overflow ≡ true) tov over in cc))
    (λ other. effect_indicator machine s order e y other ∙ or_true s.indicator ((effect machine s order e y).overflow) over)
    (tov_or_not order)

differ : false ≡ true → ⊥
differ h = cc

-- ---- TOV alone clears it

or_kept : (a b : Bool) → a ≡ true → (a || b) ≡ true
or_kept a b h = rw h

still_set : (s after : State) → s.indicator ≡ true → after.indicator ≡ false → after.indicator ≡ s.indicator → ⊥
still_set s after was now same = differ (sym now ∙ same ∙ was)

-- ---- an order that overflows alone sets it

or_second : (a b : Bool) → a ≡ false → (a || b) ≡ true → b ≡ true
or_second true b clear h = absurd (differ (sym clear))
or_second false b clear h = h

other_chosen : (b : Bool) (t u : State) → b ≡ false → u.indicator ≡ false → (if b then t else u).indicator ≡ false
other_chosen true t u clear h = absurd (differ (sym clear))
other_chosen false t u clear h = h

still_clear : (s after : State) → s.indicator ≡ false → after.indicator ≡ true → after.indicator ≡ s.indicator → ⊥
still_clear s after was now same = differ (sym was ∙ sym same ∙ now)

module _ (machine : Machine) (s : State) where
  obeys_sets : (named : Option Decoded) (report : Done) (after : State) → Obeys machine s named report after → report.overflow ≡ true → after.indicator ≡ true
  obeys_sets (Some d) report after p over =
      ap (λ (v : State). v.indicator) p.1 ∙ effect_sets machine s d.order (effective s d.order d.indexed d.address) d.address (sym (ap (λ (v : Done). v.overflow) p.0) ∙ over)
  obeys_sets None report after p over = absurd (differ (sym (ap (λ (v : Done). v.overflow) p.0) ∙ over))

  step_in_sets : (phase : Phase) (report : Done) (after : State) → StepsIn phase machine s report after → report.overflow ≡ true → after.indicator ≡ true
  step_in_sets Running report after p over = obeys_sets p.0 report after p.2 over
  step_in_sets Waiting report after p over = absurd (differ (sym (ap (λ (v : Done). v.overflow) p.0) ∙ over))
  step_in_sets Halted report after p over = absurd (differ (sym (ap (λ (v : Done). v.overflow) p.0) ∙ over))

  pub overflow_sets : (event : Event) (report : Done) (after : State) → Steps machine s event report after → report.overflow ≡ true → after.indicator ≡ true
  overflow_sets Step report after p over = step_in_sets s.phase report after p over
  overflow_sets Pulse report after p over = absurd (differ (sym (ap (λ (v : Done). v.overflow) p.0) ∙ over))
  overflow_sets (Put address word) report after p over = absurd (differ (sym (ap (λ (v : Done). v.overflow) p.0) ∙ over))

  obeys_clears : (named : Option Decoded) (report : Done) (after : State) → s.phase ≡ Running → IsDecoding machine.codes (word_here s) named
      → Obeys machine s named report after → s.indicator ≡ true → after.indicator ≡ false → Reads machine s Tov
  obeys_clears (Some d) report after running names p was now = ⊎_elim
      (λ tov. record { running = running; indexed = d.indexed; address = d.address; names = subst (λ (o : Order). Names machine.codes (word_here s) o d.indexed d.address) tov names })
      (λ other.
      let e = effective s d.order d.indexed d.address in
      let set = ap (λ (v : State). v.indicator) p.1 ∙ effect_indicator machine s d.order e d.address other ∙ or_kept s.indicator ((effect machine s d.order e d.address).overflow) was in
      absurd (differ (sym now ∙ set)))
      (tov_or_not d.order)
  obeys_clears None report after running names p was now = absurd (still_set s after was now (ap (λ (v : State). v.indicator) p.1))

  step_in_clears : (phase : Phase) (report : Done) (after : State) → s.phase ≡ phase → StepsIn phase machine s report after
      → s.indicator ≡ true → after.indicator ≡ false → Reads machine s Tov
  step_in_clears Running report after is p was now = obeys_clears p.0 report after is p.1 p.2 was now
  step_in_clears Waiting report after is p was now = absurd (still_set s after was now (ap (λ (v : State). v.indicator) p.1))
  step_in_clears Halted report after is p was now = absurd (still_set s after was now (ap (λ (v : State). v.indicator) p.1))

  pub tov_clears : (event : Event) (report : Done) (after : State) → Steps machine s event report after
      → s.indicator ≡ true → after.indicator ≡ false → (event ≡ Step) × Reads machine s Tov
  tov_clears Step report after p was now = (refl, step_in_clears s.phase report after refl p was now)
  tov_clears Pulse report after p was now = absurd (still_set s after was now (ap (λ (v : State). v.indicator) p.1))
  tov_clears (Put address word) report after p was now = absurd (still_set s after was now (ap (λ (v : State). v.indicator) p.1))

  effect_set_by : (order : Order) (e y : ℕ) → s.indicator ≡ false
      → ((effect machine s order e y).after).indicator ≡ true → (effect machine s order e y).overflow ≡ true
  effect_set_by order e y was now = ⊎_elim
      (λ tov.
      let set : ((effect machine s Tov e y).after).indicator ≡ true = subst (λ (o : Order). ((effect machine s o e y).after).indicator ≡ true) tov now in
      absurd (differ (sym (other_chosen s.indicator _ _ was was) ∙ set)))
      (λ other. or_second s.indicator _ was (sym (effect_indicator machine s order e y other) ∙ now))
      (tov_or_not order)

  obeys_set_by : (named : Option Decoded) (report : Done) (after : State) → Obeys machine s named report after
      → s.indicator ≡ false → after.indicator ≡ true → report.overflow ≡ true
  obeys_set_by (Some d) report after p was now =
      ap (λ (v : Done). v.overflow) p.0
      ∙ effect_set_by d.order (effective s d.order d.indexed d.address) d.address was (sym (ap (λ (v : State). v.indicator) p.1) ∙ now)
  obeys_set_by None report after p was now = absurd (still_clear s after was now (ap (λ (v : State). v.indicator) p.1))

  step_in_set_by : (phase : Phase) (report : Done) (after : State) → StepsIn phase machine s report after
      → s.indicator ≡ false → after.indicator ≡ true → report.overflow ≡ true
  step_in_set_by Running report after p was now = obeys_set_by p.0 report after p.2 was now
  step_in_set_by Waiting report after p was now = absurd (still_clear s after was now (ap (λ (v : State). v.indicator) p.1))
  step_in_set_by Halted report after p was now = absurd (still_clear s after was now (ap (λ (v : State). v.indicator) p.1))

  pub set_by_overflow : (event : Event) (report : Done) (after : State) → Steps machine s event report after
      → s.indicator ≡ false → after.indicator ≡ true → report.overflow ≡ true
  set_by_overflow Step report after p was now = step_in_set_by s.phase report after p was now
  set_by_overflow Pulse report after p was now = absurd (still_clear s after was now (ap (λ (v : State). v.indicator) p.1))
  set_by_overflow (Put address word) report after p was now = absurd (still_clear s after was now (ap (λ (v : State). v.indicator) p.1))
