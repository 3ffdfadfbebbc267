-- What serves inside: what is gathered of the lines of a text of times.
use Rattle.std.specs.Prelude.{◌≡◌, ℕ, ◌+◌, ◌-◌, ◌<◌, ◌≤◌, Bool, false, ◌==◌, ◌||◌, nat_lt, if◌then◌else◌, List, length, All, IfSome, get_or, Option, Some, None, codes}
use Rattle.std.specs.Option.{is_some}
use Rattle.std.specs.List.{filter_map}
use Rattle.ags_text.specs.Field.{AreBlanks, next_field, behind_field}
use Rattle.ags_text.specs.Numeral.{IsDecimal}
use Rattle.ags_frame.specs.Fault.{has_ended}
use Rattle.ags_times.specs.Budget.{IsTime}
use Rattle.ags_times.specs.Text.{row_bound, has_row, is_end}
use Rattle.ags_times.specs.declared.gatherers.Gatherer.{Gatherer}
use Rattle.ags_times.specs.declared.lines.RowBound.{RowBound}
use Rattle.ags_times.specs.declared.lines.TimesLine.{TimesLine}
use Rattle.ags_times.specs.declared.lines.TimesLine.TheVariants.{Bound, End}

-- the row's number and its bound stand in a text as its only fields
pub record AreBoundFields (text : List ℕ) (its : RowBound) : Type 0 where
  pub row_is : IsDecimal 5 (next_field text) its.row
  pub bound_is : IsDecimal 5 (next_field (behind_field text)) its.bound
  pub ends : AreBlanks (behind_field (behind_field text))

-- the name of a line and the text after it are the fields of what a line states
abbrev pub AreFieldsOf : (name text : List ℕ) → TimesLine → Type 0
AreFieldsOf name text (Bound its) = (name ≡ codes "TIME") × AreBoundFields text its
AreFieldsOf name text End = (name ≡ codes "END") × AreBlanks text

-- a row that is named is one of so many
pub record IsAmong (rows number : ℕ) : Type 0 where
  pub first : 1 ≤ number
  pub last : number ≤ rows

-- The bounds are those that the lines so far state, nearest first, where they state one; and it is noted whether the last line is END.
pub record Gathered (bounds : List (Option ℕ)) (ended : Bool) (before : List TimesLine) : Type 0 where
  pub stated : All (λ (its : RowBound). get_or bounds (its.row - 1) None ≡ Some its.bound) (filter_map row_bound before)
  pub noted : (position : ℕ) → position < length bounds → is_some (get_or bounds position None) ≡ has_row before (position + 1)
  pub among : All (λ (its : RowBound). IsAmong (length bounds) its.row) (filter_map row_bound before)
  pub times : All (λ bound. IfSome bound IsTime) bounds
  pub ended_is : ended ≡ has_ended is_end before

-- so is this gatherer
abbrev pub gathered_of : Gatherer → List TimesLine → Type 0
gathered_of g before = Gathered g.bounds.items g.ended before

-- a bound is stated of the row with a number
abbrev pub is_noted : List (Option ℕ) → ℕ → Bool
is_noted bounds number = if number == 0 || nat_lt (length bounds) number then false else is_some (get_or bounds (number - 1) None)
