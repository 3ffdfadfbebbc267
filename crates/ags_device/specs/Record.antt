-- A device as contracts see it: its four meanings, and what its calls make of them.
use Rattle.std.specs.Prelude.{ℕ, ◌-◌, List, [], ◌∷◌, ◌++◌, length, slice_get, Option, Some, None}

-- the address of the input register that it feeds, and that of the output register that it hears; the words that it will
-- still give, first first; and the words that it has heard, in order
pub record DeviceRecord : Type 0 where
  pub feeds : Option ℕ
  pub hears : Option ℕ
  pub plan : List ℕ
  pub kept : List ℕ

-- the first word of a list, where there is one
abbrev pub first_of : List ℕ → Option ℕ
first_of [] = None
first_of (word ∷ words) = Some word

-- the list without its first word
abbrev pub rest_of : List ℕ → List ℕ
rest_of [] = []
rest_of (word ∷ words) = words

-- the last word of a list, where there is one
abbrev pub last_of : List ℕ → Option ℕ
last_of words = slice_get words (length words - 1)

-- the device once its next word was taken: its plan alone is changed
abbrev pub given : DeviceRecord → DeviceRecord
given d = record d { plan = rest_of d.plan }

-- the device once it heard a word: what it has kept alone is changed
abbrev pub having_heard : DeviceRecord → (word : ℕ) → DeviceRecord
having_heard d word = record d { kept = d.kept ++ word ∷ [] }
