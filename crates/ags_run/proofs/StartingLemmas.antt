-- What the commands of a script set, one more at a time, and the location apart from the rest.
use Rattle.std.proofs.Common.{◌≡◌, ℕ, ◌+◌, List, [], ◌∷◌, ◌++◌, take, refl, sym, ap, ◌∙◌}
use Rattle.std.specs.Prelude.{Some, slice_get}
use Rattle.std.proofs.lemmas.List.{take_more}
use Rattle.std.proofs.lemmas.Option.{slice_get_within, get_or_from_slice_get}
use Rattle.ags_play.specs.Bench.{with_setting, with_settings}
use Rattle.ags_ports.specs.declared.machines.Machine.{Machine}
use Rattle.ags_ports.specs.State.{State}
use Rattle.ags_script.specs.declared.commands.Command.{Command}
use Rattle.ags_script.specs.declared.commands.Command.TheVariants.{Start, Cell, Port}

module _ (machine : Machine) where
  settings-append : (s : State) (first second : List Command) → with_settings machine s (first ++ second) ≡ with_settings machine (with_settings machine s first) second
  settings-append s [] second = refl
  settings-append s (command ∷ first) second = settings-append (with_setting machine s command) first second

  pub settings_more : (s : State) (commands : List Command) (position : ℕ) (command : Command) → slice_get commands position ≡ Some command
      → with_settings machine s (take (position + 1) commands) ≡ with_setting machine (with_settings machine s (take position commands)) command
  settings_more s commands position command at =
      let within = slice_get_within commands position command at in
      ap (λ (cs : List Command). with_settings machine s cs) (take_more commands position command within)
      ∙ settings-append s (take position commands) _
      ∙ ap (λ (c : Command). with_setting machine (with_settings machine s (take position commands)) c) (get_or_from_slice_get commands position command command at)

  -- the location that a command sets is set, and nothing else turns on the location that was there
  relocated : (s : State) (command : Command) (location : ℕ) → record (with_setting machine (record s { location = location }) command) { location = location } ≡ record (with_setting machine s command) { location = location }
  relocated s (Start address) location = refl
  relocated s (Cell address word) location = refl
  relocated s (Port address word) location = refl
  relocated s _ location = refl

  pub set_more : (first s after : State) (commands : List Command) (position : ℕ) (command : Command) → slice_get commands position ≡ Some command
      → s ≡ record (with_settings machine first (take position commands)) { location = first.location }
      → after ≡ record (with_setting machine s command) { location = s.location }
      → after ≡ record (with_settings machine first (take (position + 1) commands)) { location = first.location }
  set_more first s after commands position command at so_far sets =
      sets ∙ ap (λ (t : State). record (with_setting machine t command) { location = t.location }) so_far
      ∙ relocated (with_settings machine first (take position commands)) command first.location
      ∙ ap (λ (t : State). record t { location = first.location }) (sym (settings_more first commands position command at))

  relocated_all : (s : State) (location : ℕ) (commands : List Command)
      → record (with_settings machine (record s { location = location }) commands) { location = location } ≡ record (with_settings machine s commands) { location = location }
  relocated_all s location [] = refl
  relocated_all s location (command ∷ commands) =
      sym (relocated_all (with_setting machine (record s { location = location }) command) location commands)
      ∙ ap (λ (t : State). record (with_settings machine t commands) { location = location }) (relocated s command location)
      ∙ relocated_all (with_setting machine s command) location commands

  -- a state in which all is set save the location, and which stands where the commands leave it, is the one that they leave
  pub settled : (s : State) (location : ℕ) (commands : List Command) → (with_settings machine s commands).location ≡ location
      → record (with_settings machine (record s { location = location }) commands) { location = location } ≡ with_settings machine s commands
  settled s location commands here =
      relocated_all s location commands ∙ ap (λ (n : ℕ). record (with_settings machine s commands) { location = n }) (sym here)
