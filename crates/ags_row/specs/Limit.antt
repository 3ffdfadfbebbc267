-- Limits: what each cell and each port may hold wherever the machine stands, and the places where an overflow is named.
use Rattle.std.specs.Prelude.{◌≡◌, ◌≢◌, ℕ, Bool, true, false, List, length, get_or}
use Rattle.ags_domain.specs.Domain.{Meaning, IsFull}

-- The sets of the erasable cells, and of the input and the output registers by their addresses; whether a location is a named
-- overflow place; and the set of every word, which stands where no other was set.
pub record Limiting (D : Type 0) : Type 0 where
  pub cells : List D
  pub inputs : List D
  pub outputs : List D
  pub places : List Bool
  pub every : D

-- there is one for each erasable cell, for each address and for each location
pub record AreLimits {D : Type 0} (limits : Limiting D) : Type 0 where
  pub cells : length limits.cells ≡ 2048
  pub inputs : length limits.inputs ≡ 4096
  pub outputs : length limits.outputs ≡ 4096
  pub places : length limits.places ≡ 4096

-- so it is, and the set that stands where no other was set holds every word
pub record AreWholeLimits {D : Type 0} (meaning : Meaning D) (limits : Limiting D) : Type 0 where
  pub tables : AreLimits limits
  pub every : IsFull meaning limits.every

-- what the erasable cell at an address may hold
unfoldable pub cell_limit : {D : Type 0} → Limiting D → ℕ → D
cell_limit limits address = get_or limits.cells address limits.every

-- what the input register at an address may hold
unfoldable pub input_limit : {D : Type 0} → Limiting D → ℕ → D
input_limit limits address = get_or limits.inputs address limits.every

-- what the output register at an address may hold
unfoldable pub output_limit : {D : Type 0} → Limiting D → ℕ → D
output_limit limits address = get_or limits.outputs address limits.every

-- the location is a named place: an overflow is expected there
unfoldable pub is_named : {D : Type 0} → Limiting D → ℕ → Bool
is_named limits location = get_or limits.places location false

-- every limit is full, and no place is named
pub record AreFullLimits {D : Type 0} (meaning : Meaning D) (limits : Limiting D) : Type 0 where
  pub cells : (address : ℕ) → IsFull meaning (cell_limit limits address)
  pub inputs : (address : ℕ) → IsFull meaning (input_limit limits address)
  pub outputs : (address : ℕ) → IsFull meaning (output_limit limits address)
  pub places : (location : ℕ) → is_named limits location ≡ false

-- one entry of a table is set, and the others stay
pub record SetsOne {E : Type 0} (old new : ℕ → E) (place : ℕ) (entry : E) : Type 0 where
  pub set : new place ≡ entry
  pub others : (other : ℕ) → other ≢ place → new other ≡ old other

-- the limit of one cell is set, and nothing else changes
pub record SetsCell {D : Type 0} (old new : Limiting D) (address : ℕ) (value : D) : Type 0 where
  pub cells : SetsOne (cell_limit old) (cell_limit new) address value
  pub rest : new ≡ record old { cells = new.cells }

-- the limit of one input register is set, and nothing else changes
pub record SetsInput {D : Type 0} (old new : Limiting D) (address : ℕ) (value : D) : Type 0 where
  pub inputs : SetsOne (input_limit old) (input_limit new) address value
  pub rest : new ≡ record old { inputs = new.inputs }

-- the limit of one output register is set, and nothing else changes
pub record SetsOutput {D : Type 0} (old new : Limiting D) (address : ℕ) (value : D) : Type 0 where
  pub outputs : SetsOne (output_limit old) (output_limit new) address value
  pub rest : new ≡ record old { outputs = new.outputs }

-- one place is named, and nothing else changes
pub record NamesPlace {D : Type 0} (old new : Limiting D) (location : ℕ) : Type 0 where
  pub places : SetsOne (is_named old) (is_named new) location true
  pub rest : new ≡ record old { places = new.places }
