-- What a certificate promises of every run. Here stand states, events and single steps of the machine alone, and nothing of how a
-- certificate is checked.
use Rattle.std.specs.Prelude.{◌≡◌, ℕ, ◌<◌, ◌⊎◌, true, List, Any, Option, Some, IsSome, IfSome}
use Rattle.ags_domain.specs.Domain.{Meaning}
use Rattle.ags_ports.specs.declared.events.Phase.TheVariants.{Running}
use Rattle.ags_ports.specs.declared.events.Event.{Event}
use Rattle.ags_ports.specs.declared.events.Event.TheVariants.{Step}
use Rattle.ags_ports.specs.declared.machines.Machine.{Machine}
use Rattle.ags_ports.specs.Port.{position_of, register_at}
use Rattle.ags_ports.specs.State.{State}
use Rattle.ags_ports.specs.Step.{NamesNone}
use Rattle.ags_ports.specs.Run.{Moment, Run, AreEvents, AtEachStep}
use Rattle.ags_row.specs.Limit.{Limiting, output_limit, is_named}
use Rattle.ags_safe.specs.InRow.{IsInRow, HasFixedWords, AreInputsHeld, AreCellsInLimits}
use Rattle.ags_safe.specs.Certificate.{Certificate}
use Rattle.ags_safe.specs.Start.{IsStart, AreDeclared}

-- each output register holds 0, or a word of its limit
abbrev pub AreOutputsHeld : {D : Type 0} → Meaning D → Machine → Limiting D → State → Type 0
AreOutputsHeld meaning machine limits s = (address position : ℕ) → position_of machine.ports.outputs address ≡ Some position
    → (register_at s.outputs (Some position) ≡ 0) ⊎ (meaning.held (output_limit limits address) (register_at s.outputs (Some position)) ≡ true)

-- the certificate has a row at the location
abbrev pub HasRowAt : {D : Type 0} → Certificate D → ℕ → Type 0
HasRowAt cert location = Any (λ row. row.location ≡ location) cert.rows

-- A state on the way: each erasable cell holds a word of its limit, each fixed one the image's, else 0, each input one of its limit,
-- each output 0 or one of its limit; and the state is in some row.
pub record IsSafeState {D : Type 0} (meaning : Meaning D) (machine : Machine) (image : List (Option ℕ)) (cert : Certificate D) (s : State) : Type 0 where
  pub cells : AreCellsInLimits meaning cert.limits s
  pub fixed : HasFixedWords image s
  pub inputs : AreInputsHeld meaning machine cert.limits s
  pub outputs : AreOutputsHeld meaning machine cert.limits s
  pub row : Any (λ row. IsInRow meaning image cert.limits row s) cert.rows

-- One step, from the state before it: an order overflows at a named place only, and runs at a location of a row only; no step meets a
-- word that is no order; no store is to a fixed cell; a word is taken from an input register only, and given to an output register
-- only, where it is one of the limit; and the state after it is again one on the way.
pub record IsSafeStep {D : Type 0} (meaning : Meaning D) (machine : Machine) (image : List (Option ℕ)) (cert : Certificate D)
    (s : State) (event : Event) (moment : Moment) : Type 0 where
  pub overflow : moment.report.overflow ≡ true → is_named cert.limits moment.report.location ≡ true
  pub ran : moment.report.ran ≡ true → HasRowAt cert moment.report.location
  pub order : event ≡ Step → s.phase ≡ Running → ¬ NamesNone machine s
  pub stored : IfSome moment.report.stored (λ stored. stored.address < 2048)
  pub took : IfSome moment.report.took (λ address. IsSome (position_of machine.ports.inputs address))
  pub gave : IfSome moment.report.gave (λ gave. IsSome (position_of machine.ports.outputs gave.address)
      × (meaning.held (output_limit cert.limits gave.address) gave.word ≡ true))
  pub after : IsSafeState meaning machine image cert moment.after

-- Each start is a state on the way, and each step of every run from a start is safe, over every list of events that may come.
pub record Safe {D : Type 0} (meaning : Meaning D) (machine : Machine) (image : List (Option ℕ)) (cert : Certificate D) : Type 0 where
  pub start : (s : State) → IsStart meaning machine image cert s → IsSafeState meaning machine image cert s
  pub steps : (s : State) (events : List Event) (moments : List Moment) → IsStart meaning machine image cert s
      → AreEvents events → AreDeclared meaning machine cert events → Run machine s events moments
      → AtEachStep (IsSafeStep meaning machine image cert) s events moments
