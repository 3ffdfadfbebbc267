-- The three tables of limits by name: how long each is, and what stands in it.
use Rattle.std.specs.Prelude.{◌≡◌, ℕ}
use Rattle.ags_domain.specs.declared.values.Value.{Value}
use Rattle.ags_row.specs.Limit.{Limiting, cell_limit, input_limit, output_limit}
use Rattle.ags_certread.specs.declared.limits.Table.{Table}
use Rattle.ags_certread.specs.declared.limits.Table.TheVariants.{Cells, Inputs, Outputs}

-- how many addresses a table has
abbrev pub address_count : Table → ℕ
address_count Cells = 2048
address_count Inputs = 4096
address_count Outputs = 4096

-- the limit at an address
abbrev pub limit_in : Table → Limiting Value → ℕ → Value
limit_in Cells = cell_limit
limit_in Inputs = input_limit
limit_in Outputs = output_limit

-- nothing changes but the limits of a table
abbrev pub KeepsOthers : Table → (old new : Limiting Value) → Type 0
KeepsOthers Cells old new = new ≡ record old { cells = new.cells }
KeepsOthers Inputs old new = new ≡ record old { inputs = new.inputs }
KeepsOthers Outputs old new = new ≡ record old { outputs = new.outputs }
