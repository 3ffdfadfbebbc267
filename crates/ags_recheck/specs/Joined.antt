-- What comes of some things, and of one more after them.
use Rattle.std.specs.Prelude.{ℕ, ◌+◌, Result, Ok, Err}

-- the counts together, or the first fault
abbrev pub joined : {F : Type 0} → Result ℕ F → Result ℕ F → Result ℕ F
joined (Ok count) (Ok more) = Ok (count + more)
joined (Ok count) (Err fault) = Err fault
joined (Err fault) one = Err fault
