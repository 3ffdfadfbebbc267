-- Which rows a judgement of one row looks at: those at the locations to which a post of the row goes.
use Rattle.std.specs.Prelude.{◌≡◌, ℕ, ◌<◌, ◌⊎◌, ◌↔◌, List, length, Any, Option, Some, None, Ok, slice_index_or}
use Rattle.ags_domain.specs.Domain.{Meaning}
use Rattle.ags_domain.specs.declared.word_sets.WordSet.{WordSet}
use Rattle.ags_ports.specs.declared.machines.Machine.{Machine}
use Rattle.ags_row.specs.Limit.{Limiting}
use Rattle.ags_row.specs.declared.posts.Post.{Post}
use Rattle.ags_row.specs.declared.rows.Row.{Row}
use Rattle.ags_safe.specs.Case.{Case, IsCode}
use Rattle.ags_safe.specs.Posts.{IsPostsOfCase}
use Rattle.ags_safe.specs.declared.answers.PostPair.{PostPair}
use Rattle.ags_verdict.specs.RowCase.{cases_in, case_in}

-- a post that may be there goes to the location
abbrev pub GoesTo : {D : Type 0} → Option (Post D) → (location : ℕ) → Type 0
GoesTo None location = ⊥
GoesTo (Some post) location = post.next ≡ location

-- one of two posts does
abbrev pub OneGoesTo : {D : Type 0} → PostPair D → (location : ℕ) → Type 0
OneGoesTo pair location = GoesTo pair.first location ⊎ GoesTo pair.second location

module _ {D : Type 0} (meaning : Meaning D) (machine : Machine) (image : List (Option ℕ)) (limits : Limiting D) where
  -- a case has a post that goes to the location
  abbrev pub CaseGoesTo : Case D → (location : ℕ) → Type 0
  CaseGoesTo c location = (pair : PostPair D) × IsPostsOfCase meaning c (Ok pair) × OneGoesTo pair location

  -- a row has a case that has one
  abbrev pub HasPostAt : Row D → (location : ℕ) → Type 0
  HasPostAt row location = (code : WordSet) × IsCode meaning image limits row (Some code)
      × Any (λ c. CaseGoesTo (case_in machine image limits row c) location) (cases_in row code.list)

-- the row is one of the rows
abbrev pub IsAmong : {D : Type 0} → List (Row D) → Row D → Type 0
IsAmong rows row = (position : ℕ) × (position < length rows) × (slice_index_or rows position row ≡ row)

-- Rows differ at some locations alone: one that stands at no such location is one of both, or of neither.
abbrev pub DifferAtAlone : {D : Type 0} → (at : ℕ → Type 0) → (one other : List (Row D)) → Type 0
DifferAtAlone {D} at one other = (row : Row D) → ¬ at row.location → IsAmong one row ↔ IsAmong other row
