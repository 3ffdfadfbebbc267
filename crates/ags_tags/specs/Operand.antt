-- What serves inside: what stands after the keyword of a line, as it is read.
use Rattle.std.specs.Prelude.{◌≡◌, ℕ, List, codes}
use Rattle.ags_text.specs.Field.{AreBlanks, next_field, behind_field}
use Rattle.ags_text.specs.Numeral.{IsDecimal, Writes}
use Rattle.ags_tags.specs.declared.keywords.Keyword.{Keyword}
use Rattle.ags_tags.specs.declared.keywords.Keyword.TheVariants as keyword
use Rattle.ags_tags.specs.declared.statements.Entry.{Entry}
use Rattle.ags_tags.specs.declared.statements.RowEntry.{RowEntry}
use Rattle.ags_tags.specs.declared.statements.ScaleLine.{ScaleLine}
use Rattle.ags_tags.specs.declared.statements.ScaleLine.TheVariants.{Scaled, Tagged, End}
use Rattle.ags_tags.specs.Spelling.{IsScale, IsRowTag, table_name}

-- an address and a scale, and nothing after them
pub record IsEntry (text : List ℕ) (its : Entry) : Type 0 where
  pub address_is : Writes 8 4 (next_field text) its.address
  pub scale_is : IsScale (next_field (behind_field text)) its.scale
  pub ends : AreBlanks (behind_field (behind_field text))

-- a row's number and two tags, and nothing after them
pub record IsRowEntry (text : List ℕ) (its : RowEntry) : Type 0 where
  pub row_is : IsDecimal 5 (next_field text) its.row
  pub a_is : IsRowTag (next_field (behind_field text)) its.tags.a
  pub q_is : IsRowTag (next_field (behind_field (behind_field text))) its.tags.q
  pub ends : AreBlanks (behind_field (behind_field (behind_field text)))

-- the first field of a line
abbrev pub keyword_name : Keyword → List ℕ
keyword_name (keyword.Entry table) = table_name table
keyword_name keyword.Row = codes "ROW"
keyword_name keyword.End = codes "END"

-- what stands after a keyword states this
abbrev pub AreOperands : Keyword → (text : List ℕ) → ScaleLine → Type 0
AreOperands (keyword.Entry table) text its = (entry : Entry) × IsEntry text entry × (its ≡ Scaled table entry)
AreOperands keyword.Row text its = (entry : RowEntry) × IsRowEntry text entry × (its ≡ Tagged entry)
AreOperands keyword.End text its = AreBlanks text × (its ≡ End)
