-- Files in a list, each with its name and its bytes.
use Rattle.std.specs.Prelude.{◌≡◌, ◌≢◌, ℕ, List, [], ◌∷◌, Option, Some, None, if◌then◌else◌}
use Rattle.std.specs.Str.{bytes_eq}

-- the bytes of the first file of that name, and nothing where there is none
abbrev pub bytes_of : List (List ℕ × List ℕ) → List ℕ → Option (List ℕ)
bytes_of [] name = None
bytes_of (file ∷ files) name = if bytes_eq file.0 name then Some file.1 else bytes_of files name

-- the file of that name now has these bytes, and each other file is as it was
pub record Puts (old new : List (List ℕ × List ℕ)) (name bytes : List ℕ) : Type 0 where
  pub named : bytes_of new name ≡ Some bytes
  pub others : (other : List ℕ) → other ≢ name → bytes_of new other ≡ bytes_of old other
