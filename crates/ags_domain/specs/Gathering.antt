-- The held words as a word set.
use Rattle.std.specs.Prelude.{◌≡◌, ℕ, ◌<◌, ◌≤◌, ◌^◌, Bool, true, false, List, ◌++◌, Option, Some, None}
use Rattle.ags_domain.specs.WordSet.{ascends_from, lists, HoldsMore}
use Rattle.ags_domain.specs.Range.{range_ends, lies_between}
use Rattle.ags_domain.specs.declared.ranges.Range.{Range}
use Rattle.ags_domain.specs.declared.word_sets.WordSet.{WordSet}

-- the set of the held words; there is none where they are more than 16
abbrev pub AreGathered : (ℕ → Bool) → Option WordSet → Type 0
AreGathered held (Some set) = (w : ℕ) → w < 2 ^ 18 → held w ≡ lists set.list w
AreGathered held None = HoldsMore 16 held

-- the part holds the word
abbrev pub held_by_part : Option Range → ℕ → Bool
held_by_part (Some range) w = lies_between (range_ends range) w
held_by_part None w = false

-- the words below a number that are held stand in the list, in ascending number
pub record AreSoFar (held : ℕ → Bool) (list : List ℕ) (from : ℕ) : Type 0 where
  pub bound : from ≤ 2 ^ 18
  pub goes_on : (tail : List ℕ) → ascends_from from tail ≡ true → ascends_from 0 (list ++ tail) ≡ true
  pub members : (v : ℕ) → v < from → held v ≡ lists list v
  pub none_later : (v : ℕ) → from ≤ v → lists list v ≡ false
