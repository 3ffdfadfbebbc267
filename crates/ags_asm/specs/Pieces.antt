-- A source that comes in pieces.
use Rattle.std.specs.Prelude.{◌≡◌, ℕ, List}

-- what it keeps: the table of codes that it is assembled by, and the bytes so far
pub record KeptSource : Type 0 where
  pub codes : List ℕ
  pub bytes : List ℕ

-- it took these bytes, in whichever pieces they came
abbrev pub took_source : KeptSource → List ℕ → Type 0
took_source kept bytes = kept.bytes ≡ bytes
