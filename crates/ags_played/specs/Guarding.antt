-- What is written after the verdict of a certificate that is certified: the play under it, and what it met.
use Rattle.std.specs.Prelude.{◌≡◌, ℕ, List, ◌++◌, Option, Some, Result, Ok, Err}
use Rattle.ags_cert.specs.Cert.{Stated, certificate_of}
use Rattle.ags_outside.specs.declared.sending.SendError.{SendError}
use Rattle.ags_outside.specs.Sink.{appended, WroteFront}
use Rattle.ags_play.specs.Played.{Met, IsPlayOf}
use Rattle.ags_ports.specs.declared.events.Event.{Event}
use Rattle.ags_ports.specs.declared.machines.Machine.{Machine}
use Rattle.ags_script.specs.declared.commands.Command.{Command}
use Rattle.ags_program.specs.declared.status.Status.{Status}
use Rattle.ags_program.specs.Text.{met_line}
use Rattle.ags_program.specs.Work.{met_status}

-- The sink took what the play shows and what it met, and this is the status of that.
pub record GuardsWhole (machine : Machine) (image : List (Option ℕ)) (cert : Stated) (commands : List Command) (old new : Option (List ℕ)) (status : Status) : Type 0 where
  pub events : List Event
  pub shown : List ℕ
  pub met : Met
  pub plays : IsPlayOf machine image (Some (certificate_of cert)) commands events shown met
  pub sent : new ≡ appended old (shown ++ met_line met)
  pub status_is : status ≡ met_status met

-- The sink took a prefix of that.
pub record GuardsInPart (machine : Machine) (image : List (Option ℕ)) (cert : Stated) (commands : List Command) (old new : Option (List ℕ)) : Type 0 where
  pub events : List Event
  pub shown : List ℕ
  pub met : Met
  pub plays : IsPlayOf machine image (Some (certificate_of cert)) commands events shown met
  pub front : WroteFront old new (shown ++ met_line met)

-- the play under the certificate was written whole; or the output or memory stopped it, and a prefix was
abbrev pub Guards : Machine → List (Option ℕ) → Stated → List Command → (old new : Option (List ℕ)) → Result Status SendError → Type 0
Guards machine image cert commands old new (Ok status) = GuardsWhole machine image cert commands old new status
Guards machine image cert commands old new (Err error) = GuardsInPart machine image cert commands old new
