-- What a step does to the cells and the registers, by what it tells.
use Rattle.std.specs.Prelude.{ℕ, List, Option, Some, None}
use Rattle.ags_ports.specs.declared.registers.Port.{Port}
use Rattle.ags_ports.specs.declared.events.Stored.{Stored}
use Rattle.ags_ports.specs.Port.{position_of, set_at, read_at}
use Rattle.ags_ports.specs.State.{cells_with_word}

-- the cells after the store that was told, if one was told; where it goes to a fixed cell, they stay
abbrev pub cells_after_store : List ℕ → Option Stored → List ℕ
cells_after_store cells None = cells
cells_after_store cells (Some stored) = cells_with_word cells stored.address stored.word

-- the input registers' words after the word at the address that was told was taken, if one was told
abbrev pub inputs_after_take : List Port → List ℕ → Option ℕ → List ℕ
inputs_after_take ports words None = words
inputs_after_take ports words (Some address) = read_at ports words (position_of ports address)

-- the output registers' words after the word that was told was given, if one was told
abbrev pub outputs_after_give : List Port → List ℕ → Option Stored → List ℕ
outputs_after_give ports words None = words
outputs_after_give ports words (Some gave) = set_at words (position_of ports gave.address) gave.word
