-- One act under a guard.
use Rattle.std.specs.Prelude.{◌≡◌, ℕ, ◌+◌, ◌%◌, ◌^◌, Option, Some, None}
use Rattle.ags_domain.specs.declared.values.Value.{Value}
use Rattle.ags_play.specs.Act.{Act}
use Rattle.ags_play.specs.Bench as play
use Rattle.ags_play.specs.Doing.{PutWord, put_by}
use Rattle.ags_play.specs.Guard.{stopped_by}
use Rattle.ags_ports.specs.declared.events.Event.TheVariants.{Put}
use Rattle.ags_ports.specs.declared.events.Done.{Done}
use Rattle.ags_ports.specs.declared.machines.Machine.{Machine}
use Rattle.ags_ports.specs.Step.{Steps}
use Rattle.ags_safe.specs.Certificate.{Certificate}
use Rattle.ags_run.specs.Acted.{ActMade}
use Rattle.ags_run.specs.declared.benches.Bench.{Bench}

-- a word was put, and nothing else of the bench changed but the count
pub record WordPut (machine : Machine) (address word : ℕ) (before after : Bench) : Type 0 where
  pub report : Done
  pub steps : Steps machine before.core (Put address word) report after.core
  pub listener : after.listener ≡ before.listener
  pub carry : after.carry ≡ before.carry
  pub puts : after.puts ≡ (before.puts + 1) % 2 ^ 64

-- a word is the one that the guard stops, or it was put
pub record WordMet (machine : Machine) (guard : Option (Certificate Value)) (address word : ℕ) (before after : Bench) (met : Option PutWord) : Type 0 where
  pub stopped : stopped_by machine guard (Some (record { address = address; word = word })) ≡ met
  pub put : met ≡ None → WordPut machine address word before after

-- an act's word is the one that the guard stops, or the act was made
pub record ActMet (machine : Machine) (guard : Option (Certificate Value)) (b : play.Bench) (act : Act) (before after : Bench) (met : Option PutWord) : Type 0 where
  pub stopped : stopped_by machine guard (put_by machine b act) ≡ met
  pub made : met ≡ None → ActMade machine b act before after
