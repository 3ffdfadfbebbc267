-- How the lines of a text of scales are spelled: forwards from what a line states to the lines that state it.
use Rattle.std.specs.Prelude.{◌≡◌, ℕ, ℤ, pos, negsuc, Bool, true, ◌&&◌, List, [], ◌∷◌, codes}
use Rattle.std.specs.Int.RustNames.{int_le}
use Rattle.ags_text.specs.Field.{HasFields}
use Rattle.ags_text.specs.Numeral.{IsDecimal, Writes}
use Rattle.ags_certtext.specs.Spelling.{IsSigned}
use Rattle.ags_tags.specs.declared.tags.Tag.TheVariants.{Raw, Scale}
use Rattle.ags_tags.specs.declared.tags.RowTag.{RowTag}
use Rattle.ags_tags.specs.declared.tags.RowTag.TheVariants.{Any, Known}
use Rattle.ags_tags.specs.declared.statements.Table.{Table}
use Rattle.ags_tags.specs.declared.statements.Table.TheVariants.{Cell, In, Out}
use Rattle.ags_tags.specs.declared.statements.Entry.{Entry}
use Rattle.ags_tags.specs.declared.statements.RowEntry.{RowEntry}
use Rattle.ags_tags.specs.declared.statements.ScaleLine.{ScaleLine}
use Rattle.ags_tags.specs.declared.statements.ScaleLine.TheVariants.{Scaled, Tagged, End}

-- the number is a scale: one from -128 to 127
abbrev pub is_scale : ℤ → Bool
is_scale number = int_le (negsuc 127) number && int_le number (pos 127)

-- the text writes a scale: a minus or nothing, and one to six decimal digits
pub record IsScale (text : List ℕ) (scale : ℤ) : Type 0 where
  pub is : IsSigned text scale
  pub within : is_scale scale ≡ true

-- the text writes what a row says of A or Q: ANY, RAW or a scale
abbrev pub IsRowTag : List ℕ → RowTag → Type 0
IsRowTag text Any = text ≡ codes "ANY"
IsRowTag text (Known Raw) = text ≡ codes "RAW"
IsRowTag text (Known (Scale scale)) = IsScale text scale

-- the keyword of a line that names a cell or a register
abbrev pub table_name : Table → List ℕ
table_name Cell = codes "CELL"
table_name In = codes "IN"
table_name Out = codes "OUT"

-- the line has a keyword, an address of four octal digits and a scale
pub record StatesEntry (keyword line : List ℕ) (its : Entry) : Type 0 where
  pub place : List ℕ
  pub number : List ℕ
  pub address_is : Writes 8 4 place its.address
  pub scale_is : IsScale number its.scale
  pub fields : HasFields line (keyword ∷ place ∷ number ∷ [])

-- the line has the keyword ROW, the row's number, which is a count of one to five digits, and the tags of A and Q
pub record StatesRow (line : List ℕ) (its : RowEntry) : Type 0 where
  pub row : List ℕ
  pub a : List ℕ
  pub q : List ℕ
  pub row_is : IsDecimal 5 row its.row
  pub a_is : IsRowTag a its.tags.a
  pub q_is : IsRowTag q its.tags.q
  pub fields : HasFields line (codes "ROW" ∷ row ∷ a ∷ q ∷ [])

-- the line states this
abbrev pub States : List ℕ → ScaleLine → Type 0
States line (Scaled table its) = StatesEntry (table_name table) line its
States line (Tagged its) = StatesRow line its
States line End = HasFields line (codes "END" ∷ [])
