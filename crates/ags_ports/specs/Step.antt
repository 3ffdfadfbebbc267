-- One step of the machine.
use Rattle.std.specs.Prelude.{◌≡◌, ℕ, ◌<◌, ◌^◌, Bool, false, true, Option, Some, None, ⊤}
use Rattle.ags_isa.specs.declared.orders.Order.{Order}
use Rattle.ags_isa.specs.declared.decoding.Decoded.{Decoded}
use Rattle.ags_isa.specs.Naming.{Names, IsDecoding}
use Rattle.ags_ports.specs.declared.events.Phase.{Phase}
use Rattle.ags_ports.specs.declared.events.Phase.TheVariants.{Running, Waiting, Halted}
use Rattle.ags_ports.specs.declared.events.Event.{Event}
use Rattle.ags_ports.specs.declared.events.Event.TheVariants.{Step, Pulse, Put}
use Rattle.ags_ports.specs.declared.events.Done.{Done}
use Rattle.ags_ports.specs.declared.machines.Machine.{Machine}
use Rattle.ags_ports.specs.Port.{position_of, set_at}
use Rattle.ags_ports.specs.State.{State, word_here}
use Rattle.ags_ports.specs.Effect.{Effect, effect, effective}

-- the word that the event puts is below 2 ^ 18
abbrev pub IsEvent : Event → Type 0
IsEvent Step = ⊤
IsEvent Pulse = ⊤
IsEvent (Put address word) = word < 2 ^ 18

-- orders run, and the word at the location names this one
pub record Reads (machine : Machine) (s : State) (order : Order) : Type 0 where
  pub running : s.phase ≡ Running
  pub indexed : Bool
  pub address : ℕ
  pub names : Names machine.codes (word_here s) order indexed address

-- the word at the location names no order
abbrev pub NamesNone : Machine → State → Type 0
NamesNone machine s = (order : Order) (indexed : Bool) (address : ℕ) → ¬ Names machine.codes (word_here s) order indexed address

-- nothing changes but the input registers
abbrev pub ChangesInputsAlone : State → State → Type 0
ChangesInputsAlone s after = after ≡ record s { inputs = after.inputs }

-- the report of an event that runs no order: the location and its word, and nothing else
abbrev pub idle_report : State → Done
idle_report s = record {
  ran = false;
  location = s.location;
  word = word_here s;
  overflow = false;
  stored = None;
  took = None;
  gave = None;
}

-- the report of an order that ran: the location and the word that it was read from, and what it did
abbrev pub order_report : State → Effect → Done
order_report s made = record {
  ran = true;
  location = s.location;
  word = word_here s;
  overflow = made.overflow;
  stored = made.stored;
  took = made.took;
  gave = made.gave;
}

-- the order that was read runs, at its address; where none was read, the machine halts, and nothing else changes
abbrev pub Obeys : Machine → State → Option Decoded → Done → State → Type 0
Obeys machine s (Some decoded) report after =
    let e = effective s decoded.order decoded.indexed decoded.address in
    let does = effect machine s decoded.order e decoded.address in
    (report ≡ order_report s does) × (after ≡ does.after)
Obeys machine s None report after = (report ≡ idle_report s) × (after ≡ record s { phase = Halted })

-- a Step, by the phase: where orders run, the word at the location is read and obeyed; else nothing changes
abbrev pub StepsIn : Phase → Machine → State → Done → State → Type 0
StepsIn Running machine s report after =
    (named : Option Decoded) × IsDecoding machine.codes (word_here s) named × Obeys machine s named report after
StepsIn Waiting machine s report after = (report ≡ idle_report s) × (after ≡ s)
StepsIn Halted machine s report after = (report ≡ idle_report s) × (after ≡ s)

-- the phase after a pulse: it ends waiting, and in the other phases it is lost
abbrev pub phase_after_pulse : Phase → Phase
phase_after_pulse Waiting = Running
phase_after_pulse Running = Running
phase_after_pulse Halted = Halted

-- One step of the machine: in this state, the event makes this report, and leaves the state after.
abbrev pub Steps : Machine → State → Event → Done → State → Type 0
Steps machine s Step report after = StepsIn s.phase machine s report after
Steps machine s Pulse report after = (report ≡ idle_report s) × (after ≡ record s { phase = phase_after_pulse s.phase })
-- the input register at the address is set, in every phase; where there is none, nothing changes
Steps machine s (Put address word) report after =
    (report ≡ idle_report s) × (after ≡ record s { inputs = set_at s.inputs (position_of machine.ports.inputs address) word })
