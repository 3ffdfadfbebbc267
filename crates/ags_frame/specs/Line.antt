-- What a further line is, by what the text's lines state.
use Rattle.std.specs.Prelude.{◌≡◌, ℕ, ◌≤◌, ◌⊎◌, List, length, slice_index}
use Rattle.ags_text.specs.Field.{AreBlanks}

-- the line is nothing but blanks, or begins with a number sign
abbrev pub IsIdle : List ℕ → Type 0
IsIdle line = AreBlanks line ⊎ (slice_index line 0 ≡ 35)

-- The line is skipped: at most 512 bytes that are nothing but blanks, or begin with a number sign.
pub record IsSkipped (line : List ℕ) : Type 0 where
  pub most : length line ≤ 512
  pub empty : IsIdle line

-- The line is a spelling of the statement: at most 512 bytes that state it.
pub record Spells {S : Type 0} (States : List ℕ → S → Type 0) (line : List ℕ) (statement : S) : Type 0 where
  pub most : length line ≤ 512
  pub states : States line statement
