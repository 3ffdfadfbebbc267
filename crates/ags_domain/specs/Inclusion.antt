-- What lies within what.
use Rattle.std.specs.Prelude.{◌≡◌, ℕ, ◌<◌, ◌^◌, Bool, true}

-- each word of the one is a word of the other
abbrev pub AreAllIn : (inner outer : ℕ → Bool) → Type 0
AreAllIn inner outer = (w : ℕ) → w < 2 ^ 18 → inner w ≡ true → outer w ≡ true
