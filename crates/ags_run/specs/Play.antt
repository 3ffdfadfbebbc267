-- What `play` answers: how far a script was played, and what it met.
use Rattle.std.specs.Prelude.{◌≡◌, ℕ, Bool, true, false, List, count_by, Option, Result, Err, option_map}
use Rattle.ags_certtype.specs.Cert.{Stated, certificate_of}
use Rattle.ags_domain.specs.declared.values.Value.{Value}
use Rattle.ags_outside.specs.Sink.{appended, WroteFront}
use Rattle.ags_play.specs.Counted.{is_step, is_put}
use Rattle.ags_play.specs.Guard as guard
use Rattle.ags_play.specs.Played.{Met, Nothing, OutsideStart, OutsidePut, IsPlayOf}
use Rattle.ags_ports.specs.declared.events.Event.{Event}
use Rattle.ags_ports.specs.declared.machines.Machine.{Machine}
use Rattle.ags_safe.specs.Certificate.{Certificate}
use Rattle.ags_script.specs.declared.commands.Command.{Command}
use Rattle.ags_run.specs.declared.outside.Outside.{Outside}
use Rattle.ags_run.specs.declared.outside.Outside.TheVariants.{Place, Cell, Port}
use Rattle.ags_run.specs.declared.playing.Played.{Played}
use Rattle.ags_run.specs.declared.play_error.PlayError.{PlayError}
use Rattle.ags_run.specs.declared.play_error.PlayError.TheVariants.{WriteFault, StartOutside, InputRange, NoMemory}

-- the certificate of a guard, where there is one
abbrev pub guard_of : Option Stated → Option (Certificate Value)
guard_of cert = option_map certificate_of cert

-- what is outside of a start, in the words of the definition of plays
abbrev pub outside_of : Outside → guard.Outside
outside_of (Place script cert) = guard.Place script cert
outside_of (Cell address word) = guard.Cell address word
outside_of (Port address word) = guard.Port address word

-- The script was played until it met that, and the sink took exactly the text of its play.
pub record PlayedTo (machine : Machine) (image : List (Option ℕ)) (cert : Option (Certificate Value)) (commands : List Command) (old new : Option (List ℕ)) (met : Met) : Type 0 where
  pub events : List Event
  pub text : List ℕ
  pub plays : IsPlayOf machine image cert commands events text met
  pub sent : new ≡ appended old text

-- The script was played to its end: the sink took exactly the text of its play, and the steps and the puts among its events are
-- counted.
pub record PlayedWhole (machine : Machine) (image : List (Option ℕ)) (cert : Option (Certificate Value)) (commands : List Command) (old new : Option (List ℕ)) (played : Played) : Type 0 where
  pub events : List Event
  pub text : List ℕ
  pub plays : IsPlayOf machine image cert commands events text Nothing
  pub sent : new ≡ appended old text
  pub steps : played.steps ≡ count_by is_step events
  pub puts : played.puts ≡ count_by is_put events

-- The sink took a prefix of the text of the script's play.
pub record PlayedInPart (machine : Machine) (image : List (Option ℕ)) (cert : Option (Certificate Value)) (commands : List Command) (old new : Option (List ℕ)) : Type 0 where
  pub events : List Event
  pub text : List ℕ
  pub met : Met
  pub plays : IsPlayOf machine image cert commands events text met
  pub front : WroteFront old new text

-- Why the script wasn't played to its end: it met a start or a word that the certificate doesn't declare, and the sink took the
-- text up to there; or the output failed or memory ran out, and the sink took a prefix.
abbrev pub IsUnplayed : Machine → List (Option ℕ) → Option (Certificate Value) → List Command → (old new : Option (List ℕ)) → PlayError → Type 0
IsUnplayed machine image cert commands old new (StartOutside outside) = PlayedTo machine image cert commands old new (OutsideStart (outside_of outside))
IsUnplayed machine image cert commands old new (InputRange address word) = PlayedTo machine image cert commands old new (OutsidePut (record { address = address; word = word }))
IsUnplayed machine image cert commands old new WriteFault = PlayedInPart machine image cert commands old new
IsUnplayed machine image cert commands old new NoMemory = PlayedInPart machine image cert commands old new

-- whether a call met a fault of the sink, which its count of faults counts
abbrev pub is_play_fault : {T : Type 0} → Result T PlayError → Bool
is_play_fault (Err WriteFault) = true
is_play_fault _ = false
