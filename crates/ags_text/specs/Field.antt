-- The fields of a line: what stands between its blanks, said forwards from the fields, and as it is cut.
use Rattle.std.specs.Prelude.{◌≡◌, ℕ, ◌<◌, Bool, not, ◌||◌, ◌==◌, List, [], ◌∷◌, ◌++◌, length, take, drop, IsTrue}
use Rattle.std.specs.List.{position_or_len, prefix_len, list_all}

-- a space or a tab
abbrev pub is_blank : ℕ → Bool
is_blank b = b == 32 || b == 9

-- blanks and tabs, or nothing
abbrev pub AreBlanks : List ℕ → Type 0
AreBlanks text = IsTrue (list_all is_blank text)

-- no byte of it is a blank
abbrev pub HasNoBlank : List ℕ → Type 0
HasNoBlank text = IsTrue (list_all (λ b. not (is_blank b)) text)

-- what stands between two fields: one blank or tab, or more
pub record IsGap (text : List ℕ) : Type 0 where
  pub some : 0 < length text
  pub blanks : AreBlanks text

-- a field: it is not empty, and has no blank
pub record IsField (text : List ℕ) : Type 0 where
  pub some : 0 < length text
  pub marks : HasNoBlank text

-- each is a field
abbrev pub AreFields : List (List ℕ) → Type 0
AreFields [] = Unit {0}
AreFields (field ∷ fields) = IsField field × AreFields fields

-- none is empty
abbrev pub AreSome : List (List ℕ) → Type 0
AreSome [] = Unit {0}
AreSome (field ∷ fields) = (0 < length field) × AreSome fields

-- what stands after a field: the further fields, a gap before each, and nothing but blanks after the last
abbrev pub Behind : List (List ℕ) → List ℕ → Type 0
Behind [] text = AreBlanks text
Behind (field ∷ fields) text = (gap rest : List ℕ) × IsGap gap × (text ≡ gap ++ (field ++ rest)) × Behind fields rest

-- the line has these fields: before the first may stand blanks, or nothing
abbrev pub HasFields : List ℕ → List (List ℕ) → Type 0
HasFields line [] = AreBlanks line
HasFields line (field ∷ fields) = (blanks rest : List ℕ) × AreBlanks blanks × (line ≡ blanks ++ (field ++ rest)) × Behind fields rest

-- the prefix of a text before its first blank, or all of it
unfoldable pub leading_field : List ℕ → List ℕ
leading_field text = take (position_or_len is_blank text) text

-- what stands after that prefix
unfoldable pub behind_leading_field : List ℕ → List ℕ
behind_leading_field text = drop (position_or_len is_blank text) text

-- a text without the blanks at its start
unfoldable pub behind_blanks : List ℕ → List ℕ
behind_blanks text = drop (prefix_len is_blank text) text

-- the next field of a text, and nothing where none is left
unfoldable pub next_field : List ℕ → List ℕ
next_field text = leading_field (behind_blanks text)

-- what stands after it
unfoldable pub behind_field : List ℕ → List ℕ
behind_field text = behind_leading_field (behind_blanks text)

-- the fields that are cut from a text one after another are these, and nothing but blanks stands after them
abbrev pub AreCut : List (List ℕ) → List ℕ → Type 0
AreCut [] text = AreBlanks text
AreCut (field ∷ fields) text = (next_field text ≡ field) × AreCut fields (behind_field text)
