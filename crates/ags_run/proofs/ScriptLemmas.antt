-- A script's commands, one after another. The proofs of `script_play` cite:
--     command_located      the command at a position names a location
--     commands_more        a command after those before it
--     commands_stopped     a command whose word was stopped
--     commands_in_part     a command that was printed in part
--     commands_all         all commands
--     said_of_err          what is so is said of an error
use Rattle.std.proofs.Common.{◌≡◌, ℕ, ◌+◌, ◌<◌, ◌≤◌, List, [], ◌∷◌, ◌++◌, All, length, take, drop, get_or, sym, ap, subst, ◌∙◌, append-nil}
use Rattle.std.specs.Prelude.{slice_get, Option, Some, None, Result, Ok, Err, OnErr}
use Rattle.std.proofs.lemmas.Grind.{flat_map-append}
use Rattle.std.proofs.lemmas.Option.{slice_get_within, get_or_from_slice_get}
use Rattle.std.proofs.lemmas.List.{take_more, take_all, take-append-drop, drop_more}
use Rattle.ags_play.specs.Act.{Act, acts_of, acts_of_command}
use Rattle.ags_ports.specs.Machine.{IsMachine}
use Rattle.ags_script.specs.declared.commands.Command.{Command}
use Rattle.ags_run.specs.declared.players.Player.{Player}
use Rattle.ags_run.specs.declared.players.StoppedWord.{StoppedWord}
use Rattle.ags_run.specs.Playing.{PlayedActs, InPart}
use Rattle.ags_run.proofs.JoinLemmas.{played_on, part_on, stopped_before, part_before, is_machine}

-- the acts of commands after commands
acts_of-append : (first second : List Command) → acts_of (first ++ second) ≡ acts_of first ++ acts_of second
acts_of-append first second = flat_map-append acts_of_command first second

acts_of_one : (command : Command) → acts_of (command ∷ []) ≡ acts_of_command command
acts_of_one command = append-nil (acts_of_command command)

-- what stands at a position is read there with any default
read_at : (commands : List Command) (position : ℕ) (command : Command) → slice_get commands position ≡ Some command → (position < length commands) × (get_or commands position command ≡ command)
read_at commands position command found = (slice_get_within commands position command found, get_or_from_slice_get commands position command command found)

-- the commands up to a position with the one that stands there
acts_taken : (commands : List Command) (position : ℕ) (command : Command) → slice_get commands position ≡ Some command
    → acts_of (take position commands) ++ acts_of_command command ≡ acts_of (take (position + 1) commands)
acts_taken commands position command found =
    let at = read_at commands position command found in
    let more = take_more commands position command at.0 ∙ ap (λ (c : Command). take position commands ++ c ∷ []) at.1 in
    ap (λ (acts : List Act). acts_of (take position commands) ++ acts) (sym (acts_of_one command)) ∙ sym (acts_of-append (take position commands) (command ∷ [])) ∙ ap acts_of (sym more)

acts_cut : (commands : List Command) (position : ℕ) (command : Command) → slice_get commands position ≡ Some command
    → acts_of (take position commands) ++ (acts_of_command command ++ acts_of (drop (position + 1) commands)) ≡ acts_of commands
acts_cut commands position command found =
    let at = read_at commands position command found in
    let cut : drop position commands ≡ command ∷ drop (position + 1) commands = drop_more commands position command at.0 ∙ ap (λ (c : Command). c ∷ drop (position + 1) commands) at.1 in
    sym (acts_of-append (take position commands) (command ∷ drop (position + 1) commands)) ∙ ap (λ (rest : List Command). acts_of (take position commands ++ rest)) (sym cut) ∙ ap acts_of (take-append-drop position commands)

pub command_located : (P : Command → Type 0) (commands : List Command) (position : ℕ) (command : Command) → All P commands → slice_get commands position ≡ Some command → P command
command_located P commands position command all found = let at = read_at commands position command found in subst P at.1 (all position command at.0)

module _ (commands : List Command) (position : ℕ) (command : Command) (old mid new : Option (List ℕ)) (before between : Player) (found : slice_get commands position ≡ Some command)
    (so_far : PlayedActs (acts_of (take position commands)) old mid before between None) where
  pub commands_more : (after : Player) → PlayedActs (acts_of_command command) mid new between after None → PlayedActs (acts_of (take (position + 1) commands)) old new before after None
  commands_more after next =
      subst (λ (acts : List Act). PlayedActs acts old new before after None) (acts_taken commands position command found)
      (played_on (acts_of (take position commands)) (acts_of_command command) old mid new before between after None so_far next)

  pub commands_stopped : (after : Player) (stopped : StoppedWord) → PlayedActs (acts_of_command command) mid new between after (Some stopped) → PlayedActs (acts_of commands) old new before after (Some stopped)
  commands_stopped after stopped next =
      let rest = acts_of (drop (position + 1) commands) in
      subst (λ (acts : List Act). PlayedActs acts old new before after (Some stopped)) (acts_cut commands position command found)
      (played_on (acts_of (take position commands)) (acts_of_command command ++ rest) old mid new before between after (Some stopped) so_far (stopped_before (acts_of_command command) rest mid new between after stopped next))

  pub commands_in_part : IsMachine before.machine.now → InPart (acts_of_command command) mid new between → InPart (acts_of commands) old new before
  commands_in_part h next =
      let rest = acts_of (drop (position + 1) commands) in
      subst (λ (acts : List Act). InPart acts old new before) (acts_cut commands position command found)
      (part_on (acts_of (take position commands)) (acts_of_command command ++ rest) old mid new before between so_far
      (part_before (acts_of_command command) rest mid new between (is_machine before between so_far.keeps h) next))

pub commands_all : (commands : List Command) (position : ℕ) (old new : Option (List ℕ)) (before after : Player) → length commands ≤ position → PlayedActs (acts_of (take position commands)) old new before after None
    → PlayedActs (acts_of commands) old new before after None
commands_all commands position old new before after past p =
    subst (λ (all : List Command). PlayedActs (acts_of all) old new before after None) (take_all position commands past) p

pub said_of_err : {T E P : Type 0} (r : Result T E) → P → OnErr r P
said_of_err (Ok value) holds = tt
said_of_err (Err error) holds = holds
