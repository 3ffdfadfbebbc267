-- What a listener notes of the words that orders give to output registers, and what devices have heard of them.
use Rattle.std.specs.Prelude.{◌≡◌, ◌+◌, ◌%◌, ◌^◌, false, List, [], ◌∷◌, ◌++◌, Option, Some, None}
use Rattle.ags_drive.specs.Doing.{devices_given}
use Rattle.ags_device.specs.Record.{DeviceRecord}
use Rattle.ags_ports.specs.declared.events.Done.{Done}
use Rattle.ags_ports.specs.declared.events.Stored.{Stored}
use Rattle.ags_ports.specs.declared.machines.Machine.{Machine}
use Rattle.ags_ports.specs.Run.{Moment}
use Rattle.ags_drive.specs.declared.listeners.Listener.{Listener}

-- what an order gave, as a list
abbrev pub gave_list : Option Stored → List Stored
gave_list None = []
gave_list (Some gave) = gave ∷ []

-- where memory wasn't wanting, what was given stands after what was noted before
pub record Noted (old : Listener) (report : Done) (new : Listener) : Type 0 where
  pub fed : old.starved ≡ false
  pub given : new.given.items ≡ old.given.items ++ gave_list report.gave

-- A listener looked at a report: the step is counted, and what was given is noted, unless memory is wanting.
pub record Notes (old : Listener) (report : Done) (new : Listener) : Type 0 where
  pub steps : new.steps ≡ (old.steps + 1) % 2 ^ 64
  pub noted : new.starved ≡ false → Noted old report new

-- the words that were given along moments, in order
abbrev pub words_given : List Moment → List Stored
words_given [] = []
words_given (moment ∷ moments) = gave_list moment.report.gave ++ words_given moments

-- the devices once these words were given, in order
abbrev pub devices_told : Machine → List DeviceRecord → List Stored → List DeviceRecord
devices_told machine devices [] = devices
devices_told machine devices (gave ∷ words) = devices_told machine (devices_given machine (Some gave) devices) words
