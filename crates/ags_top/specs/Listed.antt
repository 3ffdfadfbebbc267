-- What a reader of a certified listing may take from it.
use Rattle.std.specs.Prelude.{◌≡◌, ℕ, ◌≤◌, ◌⊎◌, true, Bool, List, Option, Some, None}
use Rattle.ags_image.specs.Image.{entry_at}
use Rattle.ags_isa.specs.declared.orders.Order.{Order}
use Rattle.ags_isa.specs.Naming.{Names}
use Rattle.ags_ports.specs.declared.machines.Machine.{Machine}
use Rattle.ags_ports.specs.Run.{Moment}

-- Where an order ran at a fixed location, its word stands there in the image; or no word stands there, and the order's word is 000000.
abbrev pub RunsWhatStands : List (Option ℕ) → Moment → Type 0
RunsWhatStands image moment = moment.report.ran ≡ true → 2048 ≤ moment.report.location
    → (entry_at image moment.report.location ≡ Some moment.report.word) ⊎ ((entry_at image moment.report.location ≡ None) × (moment.report.word ≡ 0))

-- the word is an order of the machine
abbrev pub IsOrder : Machine → (word : ℕ) → Type 0
IsOrder machine word = (order : Order) × (indexed : Bool) × (address : ℕ) × Names machine.codes word order indexed address
