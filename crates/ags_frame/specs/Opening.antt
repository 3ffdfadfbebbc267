-- What the first line of a text opens, by the text's name and its latest version.
use Rattle.std.specs.Prelude.{◌≡◌, ◌≢◌, ℕ, ◌<◌, ◌≤◌, ◌⊎◌, List, [], ◌∷◌, length, slice_index}
use Rattle.ags_text.specs.Field.{AreBlanks, HasFields, next_field, behind_field}
use Rattle.ags_text.specs.Numeral.{IsDecimal}
use Rattle.ags_frame.specs.declared.openings.Opening.{Opening}
use Rattle.ags_frame.specs.declared.openings.Opening.TheVariants.{Version, Another, Malformed}

-- the digits spell the number plainly: one to six of them, the first of which is no 0
pub record IsPlain (digits : List ℕ) (number : ℕ) : Type 0 where
  pub is_decimal : IsDecimal 6 digits number
  pub plain : slice_index digits 0 ≢ 48

-- the number is that of a version
pub record IsVersion (latest version : ℕ) : Type 0 where
  pub first : 1 ≤ version
  pub last : version ≤ latest

-- the number is that of no version
abbrev pub IsNoVersion : (latest number : ℕ) → Type 0
IsNoVersion latest number = (number ≡ 0) ⊎ (latest < number)

-- The line opens a text of a version: at most 512 bytes that are the text's name and the version's number, plainly spelled.
pub record Opens (name : List ℕ) (version : ℕ) (line : List ℕ) : Type 0 where
  pub most : length line ≤ 512
  pub digits : List ℕ
  pub spelled : IsPlain digits version
  pub fields : HasFields line (name ∷ digits ∷ [])

-- The line opens a text of another version: at most 512 bytes that are the text's name and one to six digits, whose number is that of
-- no version.
pub record OpensAnother (name : List ℕ) (latest : ℕ) (line : List ℕ) : Type 0 where
  pub most : length line ≤ 512
  pub version : ℕ
  pub digits : List ℕ
  pub is_decimal : IsDecimal 6 digits version
  pub other : IsNoVersion latest version
  pub fields : HasFields line (name ∷ digits ∷ [])

-- what the first line of a text is
abbrev pub IsOpening : (name : List ℕ) (latest : ℕ) (line : List ℕ) → Opening → Type 0
IsOpening name latest line (Version version) = IsVersion latest version × Opens name version line
IsOpening name latest line Another = OpensAnother name latest line
IsOpening name latest line Malformed = ((version : ℕ) → IsVersion latest version → Opens name version line → ⊥) × (OpensAnother name latest line → ⊥)

-- ---- as it is read

-- the text's name, the digits of its version, and nothing after them
pub record IsVersionField (name line digits : List ℕ) : Type 0 where
  pub named : next_field line ≡ name
  pub digits_are : next_field (behind_field line) ≡ digits
  pub ends : AreBlanks (behind_field (behind_field line))

-- the digits are those of another version
abbrev pub IsOther : (latest : ℕ) (digits : List ℕ) → Type 0
IsOther latest digits = (version : ℕ) × IsDecimal 6 digits version × IsNoVersion latest version

-- what a first line is whose version has these digits
abbrev pub IsOpeningOf : (latest : ℕ) (digits : List ℕ) → Opening → Type 0
IsOpeningOf latest digits (Version version) = IsVersion latest version × IsPlain digits version
IsOpeningOf latest digits Another = IsOther latest digits
IsOpeningOf latest digits Malformed = ((version : ℕ) → IsVersion latest version → IsPlain digits version → ⊥) × (IsOther latest digits → ⊥)
