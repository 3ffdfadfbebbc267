-- What a card does at its place: the value of its symbol, and where it leaves the place.
use Rattle.std.specs.Prelude.{◌≡◌, ℕ, ◌≤◌, List, Option, Some, None}
use Rattle.ags_card.specs.declared.cards.Body.{Body}
use Rattle.ags_symbol.specs.Symbol.{Entry, IsValue}
use Rattle.ags_places.specs.declared.placing.Effect.{Effect}
use Rattle.ags_places.specs.declared.placing.Unplaced.{Unplaced}
use Rattle.ags_places.specs.declared.placing.Unplaced.TheVariants.{Fault, NoMemory}
use Rattle.ags_places.specs.declared.source_error.PlaceFault.{PlaceFault}
use Rattle.ags_places.specs.Place.{place_after, symbol_value}
use Rattle.ags_places.specs.Fault.{body_fault}

-- a card without a fault does this
pub record IsEffect (early : List Entry) (at : ℕ) (body : Body) (effect : Effect) : Type 0 where
  pub faultless : body_fault early at body ≡ None
  pub value : effect.value ≡ symbol_value early at body
  pub next : effect.next ≡ place_after early at body
  pub is_value : IsValue effect.value
  pub small : effect.next ≤ 4096

-- why a card is not placed, where it was not want of memory
abbrev pub IsUnplaced : Option PlaceFault → Unplaced → Type 0
IsUnplaced found (Fault fault) = found ≡ Some fault
IsUnplaced found NoMemory = Unit {0}
