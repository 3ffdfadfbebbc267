-- What stands after the keyword of a line, as it is read.
use Rattle.std.specs.Prelude.{◌≡◌, ℕ, Bool, List, codes}
use Rattle.ags_text.specs.Field.{AreBlanks, next_field, behind_field}
use Rattle.ags_text.specs.Numeral.{Writes}
use Rattle.ags_row.specs.declared.links.Link.{Link}
use Rattle.ags_certtext.specs.Front.{BeginsWithValue, BeginsWithNamed, BeginsWithFlags, IsOffset, IsPlace}
use Rattle.ags_certtext.specs.declared.keywords.Keyword.{Keyword}
use Rattle.ags_certtext.specs.declared.keywords.Keyword.TheVariants as keyword
use Rattle.ags_certtext.specs.declared.statements.Entry.{Entry}
use Rattle.ags_certtext.specs.declared.statements.RowLine.{RowLine}
use Rattle.ags_certtext.specs.declared.statements.Statement.{Statement}
use Rattle.ags_certtext.specs.declared.statements.Statement.TheVariants.{Start, Entry as EntryOf, May, Row, Linked, End}
use Rattle.ags_certtext.specs.Kind.{table_name}

-- an address and a value, and nothing after them
pub record IsEntry (text : List ℕ) (entry : Entry) : Type 0 where
  pub address_is : Writes 8 4 (next_field text) entry.address
  pub rest : List ℕ
  pub value_is : BeginsWithValue (behind_field text) entry.value rest
  pub ends : AreBlanks rest

-- an address and an offset, and nothing after them
pub record IsLinkText (text : List ℕ) (link : Link) : Type 0 where
  pub address_is : Writes 8 4 (next_field text) link.address
  pub offset_is : IsOffset (next_field (behind_field text)) link.offset
  pub ends : AreBlanks (behind_field (behind_field text))

-- the index digits and the indicator digits, and nothing after them
pub record AreRowFlags (text : List ℕ) (x v : List Bool) : Type 0 where
  pub x_is : BeginsWithFlags 8 88 text x
  pub v_is : BeginsWithFlags 2 86 (behind_field (behind_field text)) v
  pub ends : AreBlanks (behind_field (behind_field (behind_field (behind_field text))))

-- a location, what A and Q may hold, the index digits and the indicator digits, and nothing after them
pub record IsRow (text : List ℕ) (row : RowLine) : Type 0 where
  pub location_is : Writes 8 4 (next_field text) row.location
  pub behind_a : List ℕ
  pub a_is : BeginsWithNamed 65 (behind_field text) row.a behind_a
  pub behind_q : List ℕ
  pub q_is : BeginsWithNamed 81 behind_a row.q behind_q
  pub flags_are : AreRowFlags behind_q row.x row.v

-- the first field of a line
abbrev pub keyword_name : Keyword → List ℕ
keyword_name keyword.Start = codes "START"
keyword_name (keyword.Entry table) = table_name table
keyword_name keyword.May = codes "MAY"
keyword_name keyword.Row = codes "ROW"
keyword_name keyword.Link = codes "LINK"
keyword_name keyword.End = codes "END"

-- what stands after a keyword makes this statement
abbrev pub AreOperands : Keyword → (text : List ℕ) → Statement → Type 0
AreOperands keyword.Start text statement = (location : ℕ) × IsPlace text location × (statement ≡ Start location)
AreOperands (keyword.Entry table) text statement = (entry : Entry) × IsEntry text entry × (statement ≡ EntryOf table entry)
AreOperands keyword.May text statement = (location : ℕ) × IsPlace text location × (statement ≡ May location)
AreOperands keyword.Row text statement = (row : RowLine) × IsRow text row × (statement ≡ Row row)
AreOperands keyword.Link text statement = (link : Link) × IsLinkText text link × (statement ≡ Linked link)
AreOperands keyword.End text statement = AreBlanks text × (statement ≡ End)
