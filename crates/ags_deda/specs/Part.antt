-- The parts of a panel's state: what each one stands for.
use Rattle.std.specs.Prelude.{◌≡◌, ℕ, ◌%◌, min, List, length, take, reverse}
use Rattle.ags_deda.specs.declared.keys.Key.{Key}
use Rattle.ags_deda.specs.declared.keyings.Keying.{Keying}
use Rattle.ags_deda.specs.declared.keyed.Keyed.{Keyed}
use Rattle.ags_deda.specs.declared.groups.Group.{Group}
use Rattle.ags_deda.specs.Key.{blank_character, blank_digit, key_character, key_digit}
use Rattle.ags_deda.specs.Form.{entry_has, readout_has, fits, is_held}
use Rattle.ags_deda.specs.Panel.{spelled}

-- how far these keys have come: which form they fit, how many they are, up to ten, and whether HOLD is in force
pub record IsKeying (keying : Keying) (keys : List Key) : Type 0 where
  pub entry : keying.entry ≡ fits entry_has keys
  pub readout : keying.readout ≡ fits readout_has keys
  pub count : keying.count ≡ min (length keys) 10
  pub held : keying.held ≡ is_held keys

-- what these keys show and send
pub record IsKeyed (keyed : Keyed) (keys : List Key) : Type 0 where
  pub characters : keyed.characters ≡ spelled key_character blank_character keys
  pub digits : keyed.digits ≡ spelled key_digit blank_digit keys

-- the digits after the last whole group of these, which stand newest first, are the front of this one
pub record IsFilling (group : Group) (digits : List ℕ) : Type 0 where
  pub filled : group.filled ≡ length digits % 9
  pub front : take (length digits % 9) group.digits ≡ reverse (take (length digits % 9) digits)
