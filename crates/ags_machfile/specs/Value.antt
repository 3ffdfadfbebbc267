-- What the values of a document say: whole numbers within limits; and how tests follow each other, so that the first one that
-- fails is told.
use Rattle.std.specs.Prelude.{ℕ, ◌&&◌, nat_le, ℤ, pos, negsuc, List, [], ◌∷◌, ◌++◌, Option, Some, None, Result, Ok, Err, if◌then◌else◌}
use Rattle.toml.specs.Data.{Data, as_integer, Items, no_items, item}

-- a test, and then one on its value: where the first fails, its fault is told and the second is not made
infixl 10 ◌>>=◌
abbrev pub ◌>>=◌ : {A B E : Type 0} → Result A E → (A → Result B E) → Result B E
Ok value >>= next = next value
Err fault >>= next = Err fault

-- the values of such tests after those of earlier ones, or the fault of the first that fails
abbrev pub collected : {A E : Type 0} → (earlier : List A) → List (Result A E) → Result (List A) E
collected earlier [] = Ok earlier
collected earlier (Ok value ∷ tests) = collected (earlier ++ value ∷ []) tests
collected earlier (Err fault ∷ tests) = Err fault

-- a whole number that lies within limits, and nothing for any other, or where there is none
abbrev pub within : (least most : ℕ) → Option ℤ → Option ℕ
within least most (Some (pos n)) = if nat_le least n && nat_le n most then Some n else None
within least most (Some (negsuc n)) = None
within least most None = None

-- the whole number of a value within limits: a float, a text or a truth value is none
abbrev pub whole_number : (least most : ℕ) → Data → Option ℕ
whole_number least most value = within least most (as_integer value)

-- an address: a whole number from 0 to 4095
abbrev pub address_given : Data → Option ℕ
address_given value = whole_number 0 4095 value

-- the values of an array, in their order
abbrev pub values_of : Items → List Data
values_of no_items = []
values_of (item value items) = value ∷ values_of items
