-- A machine's registers: those that INP reads and those that OUT sets, each in a table by address.
use Rattle.std.specs.Prelude.{◌≢◌, ℕ, ◌<◌, ◌≤◌, ◌==◌, Bool, false, List, [], ◌∷◌, length, All, AllPairs, Option, Some, None, position, slice_get, slice_set, slice_index, true, if◌then◌else◌}
use Rattle.ags_ports.specs.declared.registers.Port.{Port}

-- a list of registers is a table of one direction: at most 32, each at an address below 4096, no two at one address
pub record AreRegisters (ports : List Port) : Type 0 where
  pub few : length ports ≤ 32
  pub below : All (λ port. port.address < 4096) ports
  pub distinct : AllPairs (λ one another. one.address ≢ another.address) ports

-- the two tables of a machine
pub record Registers : Type 0 where
  pub inputs : List Port
  pub outputs : List Port

-- the position of the register at an address, counted from 0, and nothing where the table has none there
abbrev pub position_of : List Port → ℕ → Option ℕ
position_of ports address = position (λ port. port.address == address) ports

-- the word that stands in the register at a position, and 0 where there is none
abbrev pub register_at : List ℕ → Option ℕ → ℕ
register_at words None = 0
register_at words (Some position) = slice_index words position

-- the registers' words with the one at a position set, and as they are where there is none
abbrev pub set_at : List ℕ → Option ℕ → ℕ → List ℕ
set_at words None word = words
set_at words (Some position) word = slice_set words position word

-- whether the register at a position holds its word once: it is 0 again once it was read
abbrev pub is_once : Option Port → Bool
is_once None = false
is_once (Some port) = port.once

-- the input registers' words once the one at a position was read
abbrev pub read_at : List Port → List ℕ → Option ℕ → List ℕ
read_at ports words None = words
read_at ports words (Some position) = if is_once (slice_get ports position) then slice_set words position 0 else words

-- the register at an address that holds its word until another one is set
abbrev pub held_port : ℕ → Port
held_port address = record { address = address; once = false }

-- the register at an address that holds its word once
abbrev pub once_port : ℕ → Port
once_port address = record { address = address; once = true }

-- the standard input registers, of which the last holds its word once: 2001, 2002, 2004, 2010, 2020, 2040 and 2200 octal
abbrev pub standard_inputs : List Port
standard_inputs =
    held_port 0o2001 ∷ held_port 0o2002 ∷ held_port 0o2004 ∷ held_port 0o2010 ∷ held_port 0o2020 ∷ held_port 0o2040 ∷ once_port 0o2200 ∷ []

-- the standard output registers: 6001, 6002, 6004, 6010, 6020, 6040 and 6200 octal
abbrev pub standard_outputs : List Port
standard_outputs =
    held_port 0o6001 ∷ held_port 0o6002 ∷ held_port 0o6004 ∷ held_port 0o6010 ∷ held_port 0o6020 ∷ held_port 0o6040 ∷ held_port 0o6200 ∷ []
