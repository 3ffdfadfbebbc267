-- What a steady shelf stands for.
use Rattle.std.specs.Prelude.{ℕ, List}

-- the files of a shelf, each with its name and its bytes, and how often a file was found absent
pub record ShelfState : Type 0 where
  pub files : List (List ℕ × List ℕ)
  pub absences : ℕ
