-- What a shelf tells of a file.
use Rattle.std.specs.Prelude.{ℕ, List, Option, Some, None}

-- nothing; or that the file is absent; or the bytes that are in it
pub data ToldFile : Type 0 where
  Untold : ToldFile
  Missing : ToldFile
  Stored : (bytes : List ℕ) → ToldFile

-- what a shelf that keeps the files itself tells of one: its bytes, where it is there
abbrev pub told_of : Option (List ℕ) → ToldFile
told_of None = Missing
told_of (Some bytes) = Stored bytes
