-- Cells with what each may hold, as a row names them.
use Rattle.std.specs.Prelude.{ℕ, ◌+◌, Bool, true, ◌&&◌, nat_le, nat_lt, ◌==◌, List, [], ◌∷◌, Option, Some, None, if◌then◌else◌}
use Rattle.ags_row.specs.declared.ats.At.{At}

-- each cell is an erasable one, below 4000 octal (2048), from an address on, and stands above the one before it
abbrev pub cells_ascend : {D : Type 0} → (from : ℕ) → List (At D) → Bool
cells_ascend from [] = true
cells_ascend from (cell ∷ cells) = nat_le from cell.address && (nat_lt cell.address 2048 && cells_ascend (cell.address + 1) cells)

-- what a cell may hold, if it is the one at the address
abbrev pub value_where : {D : Type 0} → At D → ℕ → Option D
value_where cell address = if cell.address == address then Some cell.value else None

-- what the first of some cells that stands at the address may hold, if one does
abbrev pub value_among : {D : Type 0} → List (At D) → ℕ → Option D
value_among [] address = None
value_among (cell ∷ cells) address = if cell.address == address then Some cell.value else value_among cells address
