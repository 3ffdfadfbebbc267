-- What a machine holds between two events, in plain numbers and lists.
use Rattle.std.specs.Prelude.{◌≡◌, ℕ, ◌+◌, ◌%◌, ◌^◌, ◌<◌, Bool, List, length, All, slice_index, slice_set, nat_lt, if◌then◌else◌}
use Rattle.ags_ports.specs.declared.events.Phase.{Phase}
use Rattle.ags_ports.specs.declared.machines.Machine.{Machine}

-- The words of A and Q, the index register, the overflow indicator, where the next order stands, whether orders run,
-- the words of the 4096 cells, and the words of the input and the output registers in the order of the machine's tables.
pub record State : Type 0 where
  pub a : ℕ
  pub q : ℕ
  pub index : ℕ
  pub indicator : Bool
  pub location : ℕ
  pub phase : Phase
  pub cells : List ℕ
  pub inputs : List ℕ
  pub outputs : List ℕ

-- each is in its range, and there are as many of each as the machine has
pub record IsState (machine : Machine) (s : State) : Type 0 where
  pub a : s.a < 2 ^ 18
  pub q : s.q < 2 ^ 18
  pub index : s.index < 8
  pub location : s.location < 4096
  pub cells_count : length s.cells ≡ 4096
  pub cells : All (λ word. word < 2 ^ 18) s.cells
  pub inputs_count : length s.inputs ≡ length machine.ports.inputs
  pub inputs : All (λ word. word < 2 ^ 18) s.inputs
  pub outputs_count : length s.outputs ≡ length machine.ports.outputs
  pub outputs : All (λ word. word < 2 ^ 18) s.outputs

-- the word of the cell at an address
abbrev pub cell : State → ℕ → ℕ
cell s address = slice_index s.cells address

-- the word at the location
abbrev pub word_here : State → ℕ
word_here s = cell s s.location

-- the location after this one; after the last cell, 7777 octal, comes 0000
abbrev pub next_location : State → ℕ
next_location s = (s.location + 1) % 4096

-- the cells after a store of a word: the cells from 4000 octal (2048) on are fixed, and no store changes them
abbrev pub cells_with_word : List ℕ → ℕ → ℕ → List ℕ
cells_with_word cells address word = if nat_lt address 2048 then slice_set cells address word else cells
