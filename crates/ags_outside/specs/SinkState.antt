-- What a steady sink stands for.
use Rattle.std.specs.Prelude.{ℕ, List}

-- the bytes that a sink has taken so far, and how many it takes at once, at most
pub record SinkState : Type 0 where
  pub bytes : List ℕ
  pub most : ℕ
