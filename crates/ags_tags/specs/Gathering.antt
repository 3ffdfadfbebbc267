-- What serves inside: what is gathered of the lines of a text of scales.
use Rattle.std.specs.Prelude.{◌≡◌, ℕ, ◌+◌, ◌-◌, ◌<◌, ◌≤◌, Bool, true, false, ◌==◌, ◌||◌, nat_lt, if◌then◌else◌, List, length, All, get_or, set, Option, Some, None}
use Rattle.std.specs.Option.{is_some}
use Rattle.std.specs.List.{list_any}
use Rattle.ags_frame.specs.Fault.{has_ended}
use Rattle.ags_tags.specs.Tag.{tag_at}
use Rattle.ags_tags.specs.Text.{entries, row_entries, is_end}
use Rattle.ags_tags.specs.declared.gatherers.Gatherer.{Gatherer}
use Rattle.ags_tags.specs.declared.statements.Entry.{Entry}
use Rattle.ags_tags.specs.declared.statements.RowEntry.{RowEntry}
use Rattle.ags_tags.specs.declared.statements.ScaleLine.{ScaleLine}
use Rattle.ags_tags.specs.declared.statements.Table.{Table}
use Rattle.ags_tags.specs.declared.statements.Table.TheVariants.{Cell, In, Out}
use Rattle.ags_tags.specs.declared.tags.Tag.{Tag}
use Rattle.ags_tags.specs.declared.tags.Tag.TheVariants.{Raw, Scale}
use Rattle.ags_tags.specs.declared.tags.RowTags.{RowTags}

-- how numbers name the positions of a list: which numbers name one of so many, the position of a number, and the number of a position
pub record Naming : Type 1 where
  pub Names : (count number : ℕ) → Type 0
  pub position : ℕ → ℕ
  pub number : ℕ → ℕ

-- addresses name positions by themselves
abbrev pub by_address : Naming
by_address = record { Names = λ count number. number < count; position = λ number. number; number = λ position. position }

-- a row that is named is one of so many
pub record IsAmong (rows number : ℕ) : Type 0 where
  pub first : 1 ≤ number
  pub last : number ≤ rows

-- rows are counted from 1
abbrev pub by_row : Naming
by_row = record { Names = IsAmong; position = λ number. number - 1; number = λ position. position + 1 }

-- one of the entries has the number
abbrev pub has_number : {E : Type 0} → (E → ℕ) → List E → ℕ → Bool
has_number number_of its number = list_any (λ entry. number_of entry == number) its

-- The list has the values that entries state, at the positions that their numbers name, and it shows at which positions one was stated.
pub record Noted {A E : Type 0} (naming : Naming) (number_of : E → ℕ) (value : E → A) (default : A) (is_set : A → Bool) (its : List E) (list : List A) : Type 0 where
  pub stated : All (λ (entry : E). get_or list (naming.position (number_of entry)) default ≡ value entry) its
  pub noted : (position : ℕ) → position < length list → is_set (get_or list position default) ≡ has_number number_of its (naming.number position)
  pub among : All (λ (entry : E). naming.Names (length list) (number_of entry)) its

-- a tag is a scale
abbrev pub is_scaled : Tag → Bool
is_scaled Raw = false
is_scaled (Scale scale) = true

-- so are the tags of a table those of entries
abbrev pub TagsNoted : List Entry → List Tag → Type 0
TagsNoted its tags = Noted by_address (λ (entry : Entry). entry.address) (λ (entry : Entry). Scale entry.scale) Raw is_scaled its tags

-- and those of rows
abbrev pub RowsNoted : List RowEntry → List (Option RowTags) → Type 0
RowsNoted its rows = Noted by_row (λ (entry : RowEntry). entry.row) (λ (entry : RowEntry). Some entry.tags) None is_some its rows

-- The tags are those that the lines so far state, nearest first; and it is noted whether the last line is END.
pub record Gathered (cells inputs outputs : List Tag) (rows : List (Option RowTags)) (ended : Bool) (before : List ScaleLine) : Type 0 where
  pub cells_are : TagsNoted (entries Cell before) cells
  pub inputs_are : TagsNoted (entries In before) inputs
  pub outputs_are : TagsNoted (entries Out before) outputs
  pub rows_are : RowsNoted (row_entries before) rows
  pub cell_count : length cells ≡ 4096
  pub input_count : length inputs ≡ 4096
  pub output_count : length outputs ≡ 4096
  pub ended_is : ended ≡ has_ended is_end before

-- so is this gatherer
abbrev pub gathered_of : Gatherer → List ScaleLine → Type 0
gathered_of g before = Gathered g.cells g.inputs g.outputs g.rows.items g.ended before

-- the tags of a table
abbrev pub table_of : Gatherer → Table → List Tag
table_of g Cell = g.cells
table_of g In = g.inputs
table_of g Out = g.outputs

-- a scale is stated at an address of a table
abbrev pub is_tagged : Gatherer → Table → ℕ → Bool
is_tagged g table address = is_scaled (tag_at (table_of g table) address)

-- with a further scale in a table
abbrev pub with_entry : Gatherer → Table → Entry → Gatherer
with_entry g Cell its = record g { cells = set g.cells its.address (Scale its.scale) }
with_entry g In its = record g { inputs = set g.inputs its.address (Scale its.scale) }
with_entry g Out its = record g { outputs = set g.outputs its.address (Scale its.scale) }

-- tags are stated of the row with a number
abbrev pub is_noted : List (Option RowTags) → ℕ → Bool
is_noted rows number = if number == 0 || nat_lt (length rows) number then false else is_some (get_or rows (number - 1) None)
