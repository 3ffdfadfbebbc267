-- A certificate as the guard of a play: which words it lets be put, and what of a state is outside the starts that it
-- declares.
use Rattle.std.specs.Prelude.{◌≡◌, ◌≢◌, ℕ, ◌<◌, Bool, true, ◌||◌, is_none, List, Option, Some, None, if◌then◌else◌}
use Rattle.ags_domain.specs.Value.{value_meaning}
use Rattle.ags_domain.specs.declared.values.Value.{Value}
use Rattle.ags_ports.specs.declared.machines.Machine.{Machine}
use Rattle.ags_ports.specs.Port.{position_of, register_at}
use Rattle.ags_ports.specs.State.{State, cell}
use Rattle.ags_safe.specs.InRow.{AreInputsHeld}
use Rattle.ags_row.specs.Limit.{input_limit}
use Rattle.ags_safe.specs.Certificate.{Certificate}
use Rattle.ags_safe.specs.Start.{IsStartWord}
use Rattle.ags_play.specs.Doing.{PutWord}

-- ---- words that are put

-- the certificate lets the word be put: it is one of the register's limit, where the machine has that register
abbrev pub lets_through : Machine → Certificate Value → PutWord → Bool
lets_through machine cert put =
    is_none (position_of machine.ports.inputs put.address) || value_meaning.held (input_limit cert.limits put.address) put.word

-- the word that a guard stops of what an act would put; without a guard none is stopped
abbrev pub stopped_by : Machine → Option (Certificate Value) → Option PutWord → Option PutWord
stopped_by machine None put = None
stopped_by machine (Some cert) None = None
stopped_by machine (Some cert) (Some put) = if lets_through machine cert put then None else Some put

-- ---- starts

-- what is outside: the location that the script starts at, with the certificate's; a cell, or an input register, with its word
pub data Outside : Type 0 where
  Place : (script cert : ℕ) → Outside
  Cell : (address word : ℕ) → Outside
  Port : (address word : ℕ) → Outside

-- each erasable cell below an address has a word that it may hold at the start
abbrev pub AreCellsInside : Machine → List (Option ℕ) → Certificate Value → State → ℕ → Type 0
AreCellsInside machine image cert s limit =
    (address : ℕ) → address < limit → IsStartWord value_meaning image cert address (cell s address)

-- the input register at an address has a word of its limit
abbrev pub IsInputInside : Certificate Value → State → (address position : ℕ) → Type 0
IsInputInside cert s address position = value_meaning.held (input_limit cert.limits address) (register_at s.inputs (Some position)) ≡ true

-- each input register before a position in the table has a word of its limit
abbrev pub AreInputsInside : Machine → Certificate Value → State → ℕ → Type 0
AreInputsInside machine cert s limit =
    (address position : ℕ) → position_of machine.ports.inputs address ≡ Some position → position < limit → IsInputInside cert s address position

-- the cell at an address is the first that is outside, and this is its word
pub record IsFirstCell (machine : Machine) (image : List (Option ℕ)) (cert : Certificate Value) (s : State) (address word : ℕ) : Type 0 where
  pub location : s.location ≡ cert.start
  pub erasable : address < 2048
  pub earlier : AreCellsInside machine image cert s address
  pub outside : ¬ IsStartWord value_meaning image cert address (cell s address)
  pub word_is : word ≡ cell s address

-- the input register at an address is the first of the table that is outside, and this is its word
pub record IsFirstPort (machine : Machine) (image : List (Option ℕ)) (cert : Certificate Value) (s : State) (address word : ℕ) : Type 0 where
  pub location : s.location ≡ cert.start
  pub cells : AreCellsInside machine image cert s 2048
  pub position : ℕ
  pub found : position_of machine.ports.inputs address ≡ Some position
  pub earlier : AreInputsInside machine cert s position
  pub outside : ¬ IsInputInside cert s address position
  pub word_is : word ≡ register_at s.inputs (Some position)

-- nothing of the state is outside
pub record IsInside (machine : Machine) (image : List (Option ℕ)) (cert : Certificate Value) (s : State) : Type 0 where
  pub location : s.location ≡ cert.start
  pub cells : AreCellsInside machine image cert s 2048
  pub inputs : AreInputsHeld value_meaning machine cert.limits s

-- What is outside first, of the location, the erasable cells by their addresses, and the input registers in the table's
-- order; or nothing is.
abbrev pub IsFirstOutside : Machine → List (Option ℕ) → Certificate Value → State → Option Outside → Type 0
IsFirstOutside machine image cert s (Some (Place script stated)) = (script ≡ s.location) × (stated ≡ cert.start) × (script ≢ stated)
IsFirstOutside machine image cert s (Some (Cell address word)) = IsFirstCell machine image cert s address word
IsFirstOutside machine image cert s (Some (Port address word)) = IsFirstPort machine image cert s address word
IsFirstOutside machine image cert s None = IsInside machine image cert s

-- what a guard finds outside first; without a guard nothing is
abbrev pub IsFound : Machine → List (Option ℕ) → Option (Certificate Value) → State → Option Outside → Type 0
IsFound machine image None s found = found ≡ None
IsFound machine image (Some cert) s found = IsFirstOutside machine image cert s found
