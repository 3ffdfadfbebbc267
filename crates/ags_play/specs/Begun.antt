-- What is so of the commands that a script sets the start with, and what a play under a certificate is: a run of the
-- certificate.
use Rattle.std.specs.Prelude.{ℕ, List, All, Option}
use Rattle.ags_domain.specs.Value.{value_meaning}
use Rattle.ags_domain.specs.declared.values.Value.{Value}
use Rattle.ags_ports.specs.declared.events.Event.{Event}
use Rattle.ags_ports.specs.declared.machines.Machine.{Machine}
use Rattle.ags_ports.specs.Run.{Moment, Run, AreEvents}
use Rattle.ags_ports.specs.State.{State}
use Rattle.ags_safe.specs.Certificate.{Certificate}
use Rattle.ags_safe.specs.Start.{IsStart, AreDeclared}
use Rattle.ags_script.specs.declared.commands.Command.{Command}
use Rattle.ags_script.specs.Suiting.{NamesLocation, NamesWord}

-- each address that is named is below 4096, and for CELL below 2048, and each word that is set or put is a word
pub record AreSettable (commands : List Command) : Type 0 where
  pub locations : All NamesLocation commands
  pub words : All NamesWord commands

-- The events are those of a run from the state, which is a start of the certificate: each word that they put is below 2 ^ 18, and
-- one that it declares.
pub record IsRunOf (machine : Machine) (image : List (Option ℕ)) (cert : Certificate Value) (s : State) (events : List Event) : Type 0 where
  pub start : IsStart value_meaning machine image cert s
  pub words : AreEvents events
  pub declared : AreDeclared value_meaning machine cert events
  pub moments : List Moment
  pub run : Run machine s events moments
