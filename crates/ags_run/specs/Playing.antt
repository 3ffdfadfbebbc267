-- What the player's methods come to.
use Rattle.std.specs.Prelude.{◌≡◌, ℕ, List, [], ◌∷◌, Option, Some, None, Result, Ok, Err, option_map}
use Rattle.ags_domain.specs.declared.values.Value.{Value}
use Rattle.ags_outside.specs.declared.sending.SendError.{SendError}
use Rattle.ags_outside.specs.declared.sending.SendError.TheVariants.{WriteFault, NoMemory}
use Rattle.ags_play.specs.Act.{Act, MakesSteps, Pulses, Puts, Presses, Feeds, ShowsReg, ShowsCell, ShowsOut, ShowsDeda, cycles}
use Rattle.ags_play.specs.Bench as play
use Rattle.ags_play.specs.Bench.{start_bench}
use Rattle.ags_play.specs.Doing.{PutWord}
use Rattle.ags_ports.specs.declared.machines.Machine.{Machine}
use Rattle.ags_safe.specs.Certificate.{Certificate}
use Rattle.ags_script.specs.declared.commands.Command.{Command}
use Rattle.ags_script.specs.declared.commands.Command.TheVariants.{Step, Pulse, Set, Press, Feed, Cycle, ShowReg, ShowCell, ShowOut, ShowDeda}
use Rattle.ags_run.specs.Acted.{ActMade, ActsPlayed, ActsInPart}
use Rattle.ags_run.specs.declared.benches.Bench.{Bench}
use Rattle.ags_run.specs.declared.play_error.PlayError.{PlayError}
use Rattle.ags_run.specs.declared.play_error.PlayError.TheVariants as unplayed
use Rattle.ags_run.specs.declared.players.Player.{Player}
use Rattle.ags_run.specs.declared.players.StoppedWord.{StoppedWord}
use Rattle.ags_run.specs.declared.playing.Played.{Played}
use Rattle.ags_run.specs.Making.{WordMet, ActMet}
use Rattle.ags_run.specs.Play.{guard_of}
use Rattle.ags_run.specs.Standing.{StandsAs}

-- the certificate of a player's guard, where there is one
abbrev pub guard_in : Player → Option (Certificate Value)
guard_in player = guard_of (option_map (λ cert. cert.now) player.guard)

-- a word that was stopped, in the words of the definition of plays
abbrev pub put_of : StoppedWord → PutWord
put_of stopped = record { address = stopped.address; word = stopped.word }

-- the machine and the guard are those that were there before
pub record KeepsRules (before after : Player) : Type 0 where
  pub machine : after.machine.now ≡ before.machine.now
  pub guard : guard_in after ≡ guard_in before

-- a player before the first act of a script
pub record Begins (machine : Machine) (image : List (Option ℕ)) (guard : Option (Certificate Value)) (commands : List Command) (player : Player) : Type 0 where
  pub machine_is : player.machine.now ≡ machine
  pub guard_is : guard_in player ≡ guard
  pub stands : StandsAs player.bench (start_bench machine image guard commands)
  pub steps : player.bench.listener.steps ≡ 0
  pub puts : player.bench.puts ≡ 0

-- an act was made
pub record Acted (act : Act) (before after : Player) : Type 0 where
  pub keeps : KeepsRules before after
  pub made : (b : play.Bench) → StandsAs before.bench b → ActMade before.machine.now b act before.bench after.bench

-- a word was put where the guard lets it through, and met is the one that it stops
pub record Put (address word : ℕ) (before after : Player) (met : Option StoppedWord) : Type 0 where
  pub keeps : KeepsRules before after
  pub by_guard : WordMet before.machine.now (guard_in before) address word before.bench after.bench (option_map put_of met)

-- an act was made where the guard lets its word through, and met is the one that it stops
pub record ActedUnder (act : Act) (before after : Player) (met : Option StoppedWord) : Type 0 where
  pub keeps : KeepsRules before after
  pub by_guard : (b : play.Bench) → StandsAs before.bench b
      → ActMet before.machine.now (guard_in before) b act before.bench after.bench (option_map put_of met)

-- acts were played until the guard stopped a word, or to their end, and the sink took exactly their text
pub record PlayedActs (acts : List Act) (old new : Option (List ℕ)) (before after : Player) (met : Option StoppedWord) : Type 0 where
  pub keeps : KeepsRules before after
  pub played : (b : play.Bench) → StandsAs before.bench b
      → ActsPlayed before.machine.now (guard_in before) b acts old new before.bench after.bench (option_map put_of met)

-- of acts the sink took a prefix of their text
abbrev pub InPart : List Act → (old new : Option (List ℕ)) → Player → Type 0
InPart acts old new before = (b : play.Bench) → StandsAs before.bench b → ActsInPart before.machine.now (guard_in before) b acts old new

-- the acts of a command that show something
abbrev pub shown_acts : Command → List Act
shown_acts ShowReg = ShowsReg ∷ []
shown_acts (ShowCell address) = ShowsCell address ∷ []
shown_acts (ShowOut address) = ShowsOut address ∷ []
shown_acts ShowDeda = ShowsDeda ∷ []
shown_acts _ = []

-- the acts of a command that show nothing
abbrev pub made_acts : Command → List Act
made_acts (Step count) = MakesSteps count ∷ []
made_acts Pulse = Pulses ∷ []
made_acts (Set address word) = Puts address word ∷ []
made_acts (Press key) = Presses key ∷ []
made_acts Feed = Feeds ∷ []
made_acts (Cycle count) = cycles count
made_acts _ = []

-- what a play comes to whose commands met this, and left that bench
abbrev pub end_of : Bench → Result (Option StoppedWord) SendError → Result Played PlayError
end_of bench (Ok None) = Ok (record { steps = bench.listener.steps; puts = bench.puts })
end_of bench (Ok (Some stopped)) = Err (unplayed.InputRange stopped.address stopped.word)
end_of bench (Err WriteFault) = Err unplayed.WriteFault
end_of bench (Err NoMemory) = Err unplayed.NoMemory
