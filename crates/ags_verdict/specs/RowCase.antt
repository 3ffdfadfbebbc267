-- The cases of a row, in the order in which they are judged.
use Rattle.std.specs.Prelude.{◌≡◌, ℕ, ◌+◌, Bool, true, false, List, [], ◌∷◌, ◌++◌, map, Option, if◌then◌else◌}
use Rattle.std.specs.List.{flat_map}
use Rattle.ags_domain.specs.WordSet.{lists}
use Rattle.ags_ports.specs.declared.machines.Machine.{Machine}
use Rattle.ags_row.specs.Flag.{has_flag, indicator_number}
use Rattle.ags_row.specs.Limit.{Limiting}
use Rattle.ags_row.specs.declared.rows.Row.{Row}
use Rattle.ags_safe.specs.Case.{Case, case_of}

-- one word of a row's code, with one index and one indicator of the row
pub record RowCase : Type 0 where
  pub word : ℕ
  pub index : ℕ
  pub indicator : Bool

-- the numbers of the flags that are set, ascending, where the first flag has this number
abbrev pub flagged : ℕ → List Bool → List ℕ
flagged number [] = []
flagged number (flag ∷ flags) = if flag then number ∷ flagged (number + 1) flags else flagged (number + 1) flags

-- the indicators whose flags are set: clear, then set
abbrev pub indicators : List Bool → List Bool
indicators flags = (if has_flag flags 0 then false ∷ [] else []) ++ (if has_flag flags 1 then true ∷ [] else [])

-- with one word and one index: each indicator
abbrev pub with_index : (word index : ℕ) → List Bool → List RowCase
with_index word index set = map (λ indicator. record { word = word; index = index; indicator = indicator }) set

-- with one word: each index, ascending, with each indicator
abbrev pub with_word : ℕ → List ℕ → List Bool → List RowCase
with_word word indices set = flat_map (λ index. with_index word index set) indices

-- Each word of the code, ascending by its number as a word set does, with each index and each indicator.
abbrev pub cases_in : {D : Type 0} → Row D → List ℕ → List RowCase
cases_in row words = flat_map (λ word. with_word word (flagged 0 row.x) (indicators row.v)) words

-- a word of the code, an index of the row and an indicator of the row
pub record IsCaseOf {D : Type 0} (row : Row D) (words : List ℕ) (c : RowCase) : Type 0 where
  pub word : lists words c.word ≡ true
  pub index : has_flag row.x c.index ≡ true
  pub indicator : has_flag row.v (indicator_number c.indicator) ≡ true

-- the numbers that a case goes by: those of its word, its index and its indicator
abbrev pub numbers_of : RowCase → List ℕ
numbers_of c = c.word ∷ c.index ∷ indicator_number c.indicator ∷ []

-- the case that is judged
abbrev pub case_in : {D : Type 0} → Machine → List (Option ℕ) → Limiting D → Row D → RowCase → Case D
case_in machine image limits row c = case_of machine image limits row c.word c.index c.indicator
