-- What the panel hears of the machine's orders.
use Rattle.std.specs.Prelude.{◌≡◌, ℕ, ◌+◌, ◌%◌, ◌^◌, ◌==◌, is_some, List, Option, Some, None, if◌then◌else◌}
use Rattle.ags_deda.specs.Happening.{Happening}
use Rattle.ags_deda.specs.Standing.{StandsFor}
use Rattle.ags_play.specs.Doing.{with_shown}
use Rattle.ags_ports.specs.declared.events.Done.{Done}
use Rattle.ags_ports.specs.declared.events.Stored.{Stored}
use Rattle.ags_ports.specs.declared.machines.Machine.{Machine}
use Rattle.ags_ports.specs.Port.{position_of}
use Rattle.ags_run.specs.declared.listeners.Listener.{Listener}

-- where the panel listens: at the output register of the machine that it is connected to, and nowhere where there is none
abbrev pub listening : Machine → Option ℕ
listening machine = if is_some (position_of machine.ports.outputs machine.deda_out) then Some machine.deda_out else None

-- the digit that a word given to a register shows to a panel that listens there
abbrev pub heard : (address : Option ℕ) (gave : Option Stored) → Option ℕ
heard None gave = None
heard (Some address) None = None
heard (Some address) (Some gave) = if gave.address == address then Some (gave.word % 16) else None

-- A listener heard a report: the step is counted, and the panel was shown the digit, where there was one.
pub record Hears (old : Listener) (report : Done) (new : Listener) : Type 0 where
  pub address : new.address ≡ old.address
  pub steps : new.steps ≡ (old.steps + 1) % 2 ^ 64
  pub panel : (happenings : List Happening) → StandsFor old.panel happenings → StandsFor new.panel (with_shown happenings (heard old.address report.gave))
