-- Sets that a definition tells without a domain's own calls.
use Rattle.std.specs.Prelude.{◌≡◌, ℕ, ◌<◌, ◌^◌, true, Option, Some, None}
use Rattle.ags_domain.specs.Domain.{Meaning, IsAlone, IsFull}
use Rattle.ags_row.specs.declared.ats.At.{At}

-- one word alone, a set in hand, or every word
pub data Told (D : Type 0) : Type 0 where
  OneWord : ℕ → Told D
  These : D → Told D
  EveryWord : Told D

-- the set is what is told
abbrev pub IsTold : {D : Type 0} → Meaning D → Told D → D → Type 0
IsTold meaning (OneWord word) d = IsAlone meaning word d
IsTold meaning (These e) d = d ≡ e
IsTold meaning EveryWord d = IsFull meaning d

-- the word is one of what is told
abbrev pub IsAmong : {D : Type 0} → Meaning D → Told D → ℕ → Type 0
IsAmong meaning (OneWord word) w = w ≡ word
IsAmong meaning (These d) w = meaning.held d w ≡ true
IsAmong meaning EveryWord w = w < 2 ^ 18

-- a cell with what it is told to hold
pub record Store (D : Type 0) : Type 0 where
  pub address : ℕ
  pub value : Told D

-- the cell is the one that is told, with what it is told to hold
abbrev pub IsCellTold : {D : Type 0} → Meaning D → Store D → At D → Type 0
IsCellTold meaning store cell = (cell.address ≡ store.address) × IsTold meaning store.value cell.value

-- so it is, or no cell is told and there is none
abbrev pub AreCellsTold : {D : Type 0} → Meaning D → Option (Store D) → Option (At D) → Type 0
AreCellsTold meaning None None = Unit {0}
AreCellsTold meaning (Some store) (Some cell) = IsCellTold meaning store cell
AreCellsTold meaning None (Some cell) = ⊥
AreCellsTold meaning (Some store) None = ⊥
