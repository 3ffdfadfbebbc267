-- A symbol in the six bytes that hold it.
use Rattle.std.specs.Prelude.{ℕ, List, [], ◌∷◌, get_or}

-- the first six bytes of a text, with zeros after it where it is shorter
unfoldable pub padded : List ℕ → List ℕ
padded text = get_or text 0 0 ∷ get_or text 1 0 ∷ get_or text 2 0 ∷ get_or text 3 0 ∷ get_or text 4 0 ∷ get_or text 5 0 ∷ []
