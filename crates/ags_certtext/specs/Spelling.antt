-- How a certificate's lines are spelled: forwards from what a line states to the lines that state it.
use Rattle.std.specs.Prelude.{◌≡◌, ℕ, ◌+◌, ◌⊎◌, Bool, true, false, ◌&&◌, ℤ, pos, negsuc, neg_ℤ, ◌<ℤ◌, List, [], ◌∷◌, ◌++◌, length, Option, Some, None, if◌then◌else◌, codes}
use Rattle.std.specs.Int.RustNames.{int_le}
use Rattle.ags_text.specs.Field.{HasFields}
use Rattle.ags_text.specs.Numeral.{IsDecimal, Writes}
use Rattle.ags_word.specs.Word.{fits}
use Rattle.ags_domain.specs.Domain.{IsFull}
use Rattle.ags_domain.specs.Range.{IsRangeOf}
use Rattle.ags_domain.specs.Value.{value_meaning}
use Rattle.ags_domain.specs.declared.values.Value.{Value}
use Rattle.ags_domain.specs.declared.values.Value.TheVariants.{Range, Words}
use Rattle.ags_row.specs.Flag.{some_flag}
use Rattle.ags_row.specs.declared.links.Link.{Link}
use Rattle.ags_certtext.specs.declared.statements.Entry.{Entry}
use Rattle.ags_certtext.specs.declared.statements.RowLine.{RowLine}
use Rattle.ags_certtext.specs.declared.statements.Statement.{Statement}
use Rattle.ags_certtext.specs.declared.statements.Statement.TheVariants.{Start, Entry as EntryOf, May, Row, Linked, End}
use Rattle.ags_certtext.specs.Kind.{table_name}

-- ---- values

-- a signed number: a minus or nothing, and one to six decimal digits
pub record IsSigned (text : List ℕ) (number : ℤ) : Type 0 where
  pub negative : Bool
  pub digits : List ℕ
  pub size : ℕ
  pub whole : text ≡ (if negative then 45 ∷ digits else digits)
  pub is_decimal : IsDecimal 6 digits size
  pub number_is : number ≡ (if negative then neg_ℤ (pos size) else pos size)

-- the number is a difference of two words' values: one from -262143 to 262143
abbrev pub is_offset : ℤ → Bool
is_offset number = int_le (negsuc 262142) number && int_le number (pos 262143)

-- the fields of a range: its keyword, and two signed numbers that are values of words
pub record AreEnds (fields : List (List ℕ)) (least greatest : ℤ) : Type 0 where
  pub first : List ℕ
  pub second : List ℕ
  pub are : fields ≡ codes "RANGE" ∷ first ∷ second ∷ []
  pub least_is : IsSigned first least
  pub greatest_is : IsSigned second greatest
  pub least_fits : fits least ≡ true
  pub greatest_fits : fits greatest ≡ true

-- each field is a word of six octal digits
abbrev pub AreWords : List (List ℕ) → List ℕ → Type 0
AreWords [] [] = Unit {0}
AreWords (field ∷ fields) (word ∷ words) = Writes 8 6 field word × AreWords fields words
AreWords [] (word ∷ words) = ⊥
AreWords (field ∷ fields) [] = ⊥

-- The fields state a value: the range of all words by its keyword, a range by its ends, or a word set by its words. There is no
-- value where they are a range whose least is above its greatest.
abbrev pub StateValue : List (List ℕ) → Option Value → Type 0
StateValue fields (Some (Range range)) = ((fields ≡ codes "ANY" ∷ []) × IsFull value_meaning (Range range))
    ⊎ ((least greatest : ℤ) × AreEnds fields least greatest × IsRangeOf least greatest (Some range))
StateValue fields (Some (Words set)) = (words : List (List ℕ)) × (fields ≡ codes "WORDS" ∷ words) × AreWords words set.list
StateValue fields None = (least greatest : ℤ) × AreEnds fields least greatest × (greatest <ℤ least)

-- ---- lines

-- the line has a keyword and a location of four octal digits
pub record StatesPlace (keyword line : List ℕ) (location : ℕ) : Type 0 where
  pub place : List ℕ
  pub location_is : Writes 8 4 place location
  pub fields : HasFields line (keyword ∷ place ∷ [])

-- the line has a keyword, an address of four octal digits and a value
pub record StatesEntry (keyword line : List ℕ) (entry : Entry) : Type 0 where
  pub place : List ℕ
  pub value : List (List ℕ)
  pub address_is : Writes 8 4 place entry.address
  pub value_is : StateValue value entry.value
  pub fields : HasFields line (keyword ∷ place ∷ value)

-- the line of a link has an address of four octal digits and an offset, which is a signed number
pub record StatesLink (line : List ℕ) (link : Link) : Type 0 where
  pub place : List ℕ
  pub offset : List ℕ
  pub address_is : Writes 8 4 place link.address
  pub offset_is : IsSigned offset link.offset
  pub within : is_offset link.offset ≡ true
  pub fields : HasFields line (codes "LINK" ∷ place ∷ offset ∷ [])

-- the digits of the flags that are set, where the first flag's is this one
abbrev pub flag_digits : (digit : ℕ) → List Bool → List ℕ
flag_digits digit [] = []
flag_digits digit (true ∷ flags) = digit ∷ flag_digits (digit + 1) flags
flag_digits digit (false ∷ flags) = flag_digits (digit + 1) flags

-- the line has some fields, and after them those of a row: its location, what A and Q may hold, and the digits of each index and each
-- indicator that may stand
pub record StatesRowBehind (front : List (List ℕ)) (line : List ℕ) (row : RowLine) : Type 0 where
  pub place : List ℕ
  pub a : List (List ℕ)
  pub q : List (List ℕ)
  pub location_is : Writes 8 4 place row.location
  pub a_is : StateValue a row.a
  pub q_is : StateValue q row.q
  pub indices : length row.x ≡ 8
  pub indicators : length row.v ≡ 2
  pub some_index : some_flag row.x ≡ true
  pub some_indicator : some_flag row.v ≡ true
  pub fields : HasFields line (front ++ (place ∷ codes "A" ∷ (a ++ (codes "Q" ∷ (q
      ++ (codes "X" ∷ flag_digits 48 row.x ∷ codes "V" ∷ flag_digits 48 row.v ∷ []))))))

-- the line of a row has them after its keyword
abbrev pub StatesRow : (line : List ℕ) → RowLine → Type 0
StatesRow line row = StatesRowBehind (codes "ROW" ∷ []) line row

-- the line states this
abbrev pub States : List ℕ → Statement → Type 0
States line (Start location) = StatesPlace (codes "START") line location
States line (EntryOf table entry) = StatesEntry (table_name table) line entry
States line (May location) = StatesPlace (codes "MAY") line location
States line (Row row) = StatesRow line row
States line (Linked link) = StatesLink line link
States line End = HasFields line (codes "END" ∷ [])
