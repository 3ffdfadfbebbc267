-- Certificates: what a person states of a program, so that it can be checked one order at a time.
use Rattle.std.specs.Prelude.{◌≡◌, ℕ, ◌<◌, ◌≤◌, true, List, length, All, Option, None, IfSome}
use Rattle.ags_domain.specs.Domain.{Meaning, IsWithin, IsFull}
use Rattle.ags_ports.specs.declared.machines.Machine.{Machine}
use Rattle.ags_ports.specs.Port.{position_of}
use Rattle.ags_row.specs.Limit.{Limiting, cell_limit, input_limit, output_limit}
use Rattle.ags_row.specs.declared.rows.Row.{Row}

-- The location that a run starts at; what each cell and each port may hold, and which places are named; what an erasable cell may
-- hold at the start, where that is stated; and the rows.
pub record Certificate (D : Type 0) : Type 0 where
  pub start : ℕ
  pub limits : Limiting D
  pub init : ℕ → Option D
  pub rows : List (Row D)

-- The start is a location of the memory; what is stated of a cell, at the start or in a row, is within the cell's limit; and there
-- is a row.
pub record IsCertificate {D : Type 0} (meaning : Meaning D) (cert : Certificate D) : Type 0 where
  pub start : cert.start < 4096
  pub init : (address : ℕ) → address < 2048 → IfSome (cert.init address) (λ value. IsWithin meaning value (cell_limit cert.limits address))
  pub cells : All (λ row. All (λ at. IsWithin meaning at.value (cell_limit cert.limits at.address)) row.at) cert.rows
  pub some_row : 1 ≤ length cert.rows

-- The certificate is one for the machine's registers: an address with a limit other than the full one has a register, and the limit
-- of a register that holds its word once holds 0, which it is when it was read.
pub record Suits {D : Type 0} (meaning : Meaning D) (machine : Machine) (cert : Certificate D) : Type 0 where
  pub inputs : (address : ℕ) → address < 4096 → position_of machine.ports.inputs address ≡ None → IsFull meaning (input_limit cert.limits address)
  pub outputs : (address : ℕ) → address < 4096 → position_of machine.ports.outputs address ≡ None → IsFull meaning (output_limit cert.limits address)
  pub once : All (λ port. port.once ≡ true → meaning.held (input_limit cert.limits port.address) 0 ≡ true) machine.ports.inputs
