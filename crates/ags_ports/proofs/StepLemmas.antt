-- Each event has one step.
use Rattle.std.proofs.Common.{◌≡◌, refl, sym, ◌∙◌, subst}
use Rattle.std.specs.Prelude.{Option, Some, None}
use Rattle.ags_isa.specs.declared.decoding.Decoded.{Decoded}
use Rattle.ags_ports.specs.declared.events.Phase.{Phase}
use Rattle.ags_ports.specs.declared.events.Phase.TheVariants.{Running, Waiting, Halted}
use Rattle.ags_ports.specs.declared.events.Event.{Event}
use Rattle.ags_ports.specs.declared.events.Event.TheVariants.{Step, Pulse, Put}
use Rattle.ags_ports.specs.declared.events.Done.{Done}
use Rattle.ags_ports.specs.declared.machines.Machine.{Machine}
use Rattle.ags_ports.specs.Machine.{IsMachine}
use Rattle.ags_ports.specs.State.{State, word_here}
use Rattle.ags_ports.specs.Step.{Obeys, StepsIn, Steps}
use Rattle.ags_ports.proofs.NamingLemmas.{decoding, decoding_same}

module _ (machine : Machine) (s : State) where
  -- ---- there is one

  some_obeyed : (named : Option Decoded) → (report : Done) × (after : State) × Obeys machine s named report after
  some_obeyed (Some decoded) = (_, _, (refl, refl))
  some_obeyed None = (_, _, (refl, refl))

  some_step_in : (phase : Phase) → (report : Done) × (after : State) × StepsIn phase machine s report after
  some_step_in Running =
      let read = decoding machine.codes (word_here s) in
      let does = some_obeyed read.0 in
      (does.0, does.1, (read.0, read.1, does.2))
  some_step_in Waiting = (_, _, (refl, refl))
  some_step_in Halted = (_, _, (refl, refl))

  pub some_step : (event : Event) → (report : Done) × (after : State) × Steps machine s event report after
  some_step Step = some_step_in s.phase
  some_step Pulse = (_, _, (refl, refl))
  some_step (Put address word) = (_, _, (refl, refl))

  -- ---- there is no other

  one_obeyed : (named : Option Decoded) (report told : Done) (after left : State) → Obeys machine s named report after → Obeys machine s named told left → (report ≡ told) × (after ≡ left)
  one_obeyed (Some decoded) report told after left p r = (p.0 ∙ sym r.0, p.1 ∙ sym r.1)
  one_obeyed None report told after left p r = (p.0 ∙ sym r.0, p.1 ∙ sym r.1)

  one_step_in : (phase : Phase) (report told : Done) (after left : State) → IsMachine machine → StepsIn phase machine s report after → StepsIn phase machine s told left → (report ≡ told) × (after ≡ left)
  one_step_in Running report told after left h p r =
      let same : p.0 ≡ r.0 = decoding_same machine.codes h.codes (word_here s) p.0 r.0 p.1 r.1 in
      one_obeyed r.0 report told after left (subst (λ (named : Option Decoded). Obeys machine s named report after) same p.2) r.2
  one_step_in Waiting report told after left h p r = (p.0 ∙ sym r.0, p.1 ∙ sym r.1)
  one_step_in Halted report told after left h p r = (p.0 ∙ sym r.0, p.1 ∙ sym r.1)

  pub one_step : (event : Event) (report told : Done) (after left : State) → IsMachine machine → Steps machine s event report after → Steps machine s event told left → (report ≡ told) × (after ≡ left)
  one_step Step report told after left h p r = one_step_in s.phase report told after left h p r
  one_step Pulse report told after left h p r = (p.0 ∙ sym r.0, p.1 ∙ sym r.1)
  one_step (Put address word) report told after left h p r = (p.0 ∙ sym r.0, p.1 ∙ sym r.1)
