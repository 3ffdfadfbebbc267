-- What stands at the front of a text's fields, as it is read: a keyword, a value, the flags of a row. It is said of the fields that
-- are cut from the text, one after another.
use Rattle.std.specs.Prelude.{◌≡◌, ℕ, ℤ, ◌<ℤ◌, Bool, true, false, List, [], ◌∷◌, length, Option, Some, None, codes}
use Rattle.ags_text.specs.Field.{AreBlanks, next_field, behind_field}
use Rattle.ags_text.specs.Numeral.{Writes}
use Rattle.ags_word.specs.Word.{fits}
use Rattle.ags_domain.specs.Domain.{IsFull}
use Rattle.ags_domain.specs.Range.{IsRangeOf}
use Rattle.ags_domain.specs.Value.{value_meaning}
use Rattle.ags_domain.specs.declared.values.Value.{Value}
use Rattle.ags_domain.specs.declared.values.Value.TheVariants.{Range, Words}
use Rattle.ags_domain.specs.declared.word_sets.WordSet.{WordSet}
use Rattle.ags_row.specs.Flag.{some_flag}
use Rattle.ags_certtext.specs.Spelling.{IsSigned, is_offset, AreWords, StateValue, flag_digits}
use Rattle.ags_certtext.specs.declared.forms.Form.{Form}
use Rattle.ags_certtext.specs.declared.forms.Form.TheVariants as form

-- the fields are cut from the text one after another, and this is left after them
abbrev pub AreAtFront : List (List ℕ) → (text rest : List ℕ) → Type 0
AreAtFront [] text rest = text ≡ rest
AreAtFront (field ∷ fields) text rest = (next_field text ≡ field) × AreAtFront fields (behind_field text) rest

-- the next field is a word of six octal digits
abbrev pub BeginsWithWord : List ℕ → Type 0
BeginsWithWord text = (word : ℕ) × Writes 8 6 (next_field text) word

-- after the words of a set no further word stands
abbrev pub EndsItsWords : (text rest : List ℕ) → Type 0
EndsItsWords text rest = next_field text ≡ codes "WORDS" → BeginsWithWord rest → ⊥

-- a value is stated by the fields at the front of a text
pub record BeginsWithValue (text : List ℕ) (value : Option Value) (rest : List ℕ) : Type 0 where
  pub taken : List (List ℕ)
  pub front : AreAtFront taken text rest
  pub value_is : StateValue taken value

-- the value of the range from one end to the other, and none where it is empty
abbrev pub IsValueBetween : (least greatest : ℤ) → Option Value → Type 0
IsValueBetween least greatest (Some (Range range)) = IsRangeOf least greatest (Some range)
IsValueBetween least greatest (Some (Words set)) = ⊥
IsValueBetween least greatest None = greatest <ℤ least

-- a number that is a word's value
pub record IsEnd (text : List ℕ) (number : ℤ) : Type 0 where
  pub is : IsSigned text number
  pub within : fits number ≡ true

-- a number that is a difference of two words' values
pub record IsOffset (text : List ℕ) (number : ℤ) : Type 0 where
  pub is : IsSigned text number
  pub within : is_offset number ≡ true

-- the two ends of a range stand at the front of a text
pub record BeginsWithEnds (text : List ℕ) (value : Option Value) (rest : List ℕ) : Type 0 where
  pub least : ℤ
  pub greatest : ℤ
  pub least_is : IsEnd (next_field text) least
  pub greatest_is : IsEnd (next_field (behind_field text)) greatest
  pub value_is : IsValueBetween least greatest value
  pub rest_is : behind_field (behind_field text) ≡ rest

-- the words of a set stand at the front of a text
pub record BeginsWithWords (text : List ℕ) (value : Option Value) (rest : List ℕ) : Type 0 where
  pub words : List (List ℕ)
  pub set : WordSet
  pub value_is : value ≡ Some (Words set)
  pub front : AreAtFront words text rest
  pub are : AreWords words set.list

-- the set of some words as a value, before what stands after them
pub record IsSetFront (words behind : List ℕ) (value : Option Value) (rest : List ℕ) : Type 0 where
  pub set : WordSet
  pub value_is : value ≡ Some (Words set)
  pub list_is : set.list ≡ words
  pub rest_is : behind ≡ rest

-- every word
pub record IsEveryWord (value : Option Value) : Type 0 where
  pub every : Value
  pub value_is : value ≡ Some every
  pub full : IsFull value_meaning every

-- what a value's first field is
abbrev pub form_name : Form → List ℕ
form_name form.Any = codes "ANY"
form_name form.Ends = codes "RANGE"
form_name form.Listed = codes "WORDS"

-- what stands after a value's first field
abbrev pub IsInForm : Form → (text : List ℕ) → Option Value → (rest : List ℕ) → Type 0
IsInForm form.Any text value rest = IsEveryWord value × (text ≡ rest)
IsInForm form.Ends text value rest = BeginsWithEnds text value rest
IsInForm form.Listed text value rest = BeginsWithWords text value rest

-- the name of one byte, and a value after it
pub record BeginsWithNamed (name : ℕ) (text : List ℕ) (value : Option Value) (rest : List ℕ) : Type 0 where
  pub named : next_field text ≡ name ∷ []
  pub value_is : BeginsWithValue (behind_field text) value rest

-- a digit before a text, where its flag is set
abbrev pub digit_front : (digit : ℕ) → Bool → List ℕ → List ℕ
digit_front digit true text = digit ∷ text
digit_front digit false text = text

-- the text is the digits of so many flags, of which one is set
pub record AreFlags (count : ℕ) (text : List ℕ) (flags : List Bool) : Type 0 where
  pub count_is : length flags ≡ count
  pub some : some_flag flags ≡ true
  pub digits : text ≡ flag_digits 48 flags

-- the name of one byte, and the digits of flags after it
pub record BeginsWithFlags (count name : ℕ) (text : List ℕ) (flags : List Bool) : Type 0 where
  pub named : next_field text ≡ name ∷ []
  pub flags_are : AreFlags count (next_field (behind_field text)) flags

-- a number of four octal digits, and nothing after it
pub record IsPlace (text : List ℕ) (location : ℕ) : Type 0 where
  pub location_is : Writes 8 4 (next_field text) location
  pub ends : AreBlanks (behind_field text)
