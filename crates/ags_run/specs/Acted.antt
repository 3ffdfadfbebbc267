-- What the functions that make acts come to: over each bench of the definition that the code's bench stood for.
use Rattle.std.specs.Prelude.{◌≡◌, ℕ, ◌+◌, ◌%◌, ◌^◌, List, count_by, Option, None}
use Rattle.ags_domain.specs.declared.values.Value.{Value}
use Rattle.ags_outside.specs.Sink.{appended, WroteFront}
use Rattle.ags_play.specs.Act.{Act}
use Rattle.ags_play.specs.Bench as play
use Rattle.ags_play.specs.Counted.{is_step, is_put}
use Rattle.ags_play.specs.Doing.{PutWord, Does, bench_after}
use Rattle.ags_play.specs.Played.{Plays}
use Rattle.ags_ports.specs.declared.events.Event.{Event}
use Rattle.ags_ports.specs.declared.machines.Machine.{Machine}
use Rattle.ags_ports.specs.Run.{Moment}
use Rattle.ags_safe.specs.Certificate.{Certificate}
use Rattle.ags_run.specs.declared.benches.Bench.{Bench}
use Rattle.ags_run.specs.Standing.{StandsAs}

-- the events are counted
pub record AreCounted (before after : Bench) (events : List Event) : Type 0 where
  pub steps : after.listener.steps ≡ (before.listener.steps + count_by is_step events) % 2 ^ 64
  pub puts : after.puts ≡ (before.puts + count_by is_put events) % 2 ^ 64

-- one act was made
pub record ActMade (machine : Machine) (b : play.Bench) (act : Act) (before after : Bench) : Type 0 where
  pub events : List Event
  pub moments : List Moment
  pub does : Does machine b act events moments
  pub stands : StandsAs after (bench_after machine b act moments)
  pub counted : AreCounted before after events

-- The acts were played up to the one whose word is stopped, or to their end where none is, and the sink took exactly their text.
pub record ActsPlayed (machine : Machine) (guard : Option (Certificate Value)) (b : play.Bench) (acts : List Act) (old new : Option (List ℕ)) (before after : Bench) (met : Option PutWord) : Type 0 where
  pub events : List Event
  pub text : List ℕ
  pub end : play.Bench
  pub plays : Plays machine guard b acts events text end met
  pub sent : new ≡ appended old text
  pub stands : met ≡ None → StandsAs after end
  pub counted : met ≡ None → AreCounted before after events

-- The sink took a prefix of the acts' text.
pub record ActsInPart (machine : Machine) (guard : Option (Certificate Value)) (b : play.Bench) (acts : List Act) (old new : Option (List ℕ)) : Type 0 where
  pub events : List Event
  pub text : List ℕ
  pub end : play.Bench
  pub met : Option PutWord
  pub plays : Plays machine guard b acts events text end met
  pub front : WroteFront old new text
