-- Only a pulse ends waiting, and nothing ends a halt.
use Rattle.std.proofs.Common.{◌≡◌, ◌≢◌, ℕ, refl, sym, ap, subst, ◌∙◌, List}
use Rattle.ags_ports.specs.declared.events.Phase.{Phase}
use Rattle.ags_ports.specs.declared.events.Phase.TheVariants.{Running, Waiting, Halted}
use Rattle.ags_ports.specs.declared.events.Event.{Event}
use Rattle.ags_ports.specs.declared.events.Event.TheVariants.{Step, Pulse, Put}
use Rattle.ags_ports.specs.declared.events.Done.{Done}
use Rattle.ags_ports.specs.declared.machines.Machine.{Machine}
use Rattle.ags_ports.specs.State.{State}
use Rattle.ags_ports.specs.Step.{StepsIn, Steps, ChangesInputsAlone, phase_after_pulse}

unchanged : (s after : State) → after ≡ s → ChangesInputsAlone s after
unchanged s after e = subst (λ (v : State). ChangesInputsAlone s v) (sym e) refl

inputs_alone : (s after : State) (inputs : List ℕ) → after ≡ record s { inputs = inputs } → ChangesInputsAlone s after
inputs_alone s after inputs e = subst (λ (v : State). ChangesInputsAlone s v) (sym e) refl

module _ (machine : Machine) (s : State) where
  pub waits : (event : Event) (report : Done) (after : State) → s.phase ≡ Waiting → event ≢ Pulse → Steps machine s event report after → ChangesInputsAlone s after
  waits Step report after waiting other p =
      let q = subst (λ (phase : Phase). StepsIn phase machine s report after) waiting p in
      unchanged s after q.1
  waits Pulse report after waiting other p = absurd (other refl)
  waits (Put address word) report after waiting other p = inputs_alone s after _ p.1

  pub wakes : (report : Done) (after : State) → s.phase ≡ Waiting → Steps machine s Pulse report after → after ≡ record s { phase = Running }
  wakes report after waiting p = p.1 ∙ ap (λ (phase : Phase). record s { phase = phase_after_pulse phase }) waiting

  pub halts : (event : Event) (report : Done) (after : State) → s.phase ≡ Halted → Steps machine s event report after → ChangesInputsAlone s after
  halts Step report after halted p =
      let q = subst (λ (phase : Phase). StepsIn phase machine s report after) halted p in
      unchanged s after q.1
  halts Pulse report after halted p = unchanged s after
      (p.1 ∙ ap (λ (phase : Phase). record s { phase = phase_after_pulse phase }) halted ∙ ap (λ (phase : Phase). record s { phase = phase }) (sym halted))
  halts (Put address word) report after halted p = inputs_alone s after _ p.1
