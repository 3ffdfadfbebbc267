-- Things that are judged one after the other, up to the first that is refused.
use Rattle.std.specs.Prelude.{◌≡◌, ℕ, ◌+◌, ◌⊎◌, List, [], ◌∷◌, Result, Ok, Err}

-- What comes of things in order, by what comes of each, whose position in the order is told too: the sum of their counts, or the fault
-- of the first that has one.
abbrev pub InOrder : {X F : Type 0} → (ℕ → X → Result ℕ F → Type 0) → ℕ → List X → Result ℕ F → Type 0
InOrder judged position [] (Ok count) = count ≡ 0
InOrder judged position [] (Err fault) = ⊥
InOrder judged position (x ∷ xs) (Ok count) = (one : ℕ) × (rest : ℕ) × judged position x (Ok one) × InOrder judged (position + 1) xs (Ok rest)
    × (count ≡ one + rest)
InOrder judged position (x ∷ xs) (Err fault) =
    judged position x (Err fault) ⊎ ((one : ℕ) × judged position x (Ok one) × InOrder judged (position + 1) xs (Err fault))
