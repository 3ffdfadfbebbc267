-- The lines of a text: what it is to be cut into lines, and as they are cut.
use Rattle.std.specs.Prelude.{◌≡◌, ℕ, ◌+◌, ◌<◌, ◌≤◌, ◌⊎◌, not, List, [], ◌∷◌, ◌++◌, length, take, drop, ◌==◌, if◌then◌else◌, IsTrue}
use Rattle.std.specs.List.{slice_split, list_all}
use Rattle.std.specs.Str.Lines.{strip_carriage_return}

-- A line of a text: where its first byte stands in the text, and its bytes without the line's end.
pub record LineAt : Type 0 where
  pub start : ℕ
  pub bytes : List ℕ

-- no byte of it is a line feed
abbrev pub HasNoFeed : List ℕ → Type 0
HasNoFeed bytes = IsTrue (list_all (λ b. not (b == 10)) bytes)

-- the bytes end in a carriage return
abbrev pub EndsInReturn : List ℕ → Type 0
EndsInReturn bytes = (front : List ℕ) × (bytes ≡ front ++ 13 ∷ [])

-- What stands between a line's bytes and its line feed, or the end of the text: one carriage return, or nothing, where
-- the bytes do not end in one themselves.
abbrev pub IsReturn : (bytes return : List ℕ) → Type 0
IsReturn bytes return = (return ≡ 13 ∷ []) ⊎ ((return ≡ []) × (EndsInReturn bytes → ⊥))

-- the text is a line that ends at a line feed, and what stands after that
pub record BeginsWithLine (text bytes return behind : List ℕ) : Type 0 where
  pub whole : text ≡ bytes ++ (return ++ 10 ∷ behind)
  pub unbroken : HasNoFeed bytes
  pub ending : IsReturn bytes return

-- the text is a last line, which is not empty, without a line feed after it
pub record IsLastLine (text bytes return : List ℕ) : Type 0 where
  pub whole : text ≡ bytes ++ return
  pub some : 0 < length bytes
  pub unbroken : HasNoFeed bytes
  pub ending : IsReturn bytes return

-- The rest of a text, from that byte of it on, is these lines with their ends, one after the other, and nothing else,
-- but that a lone carriage return may stand after the last line feed.
abbrev pub IsCutFrom : (start : ℕ) → List ℕ → List LineAt → Type 0
IsCutFrom start text [] = (text ≡ []) ⊎ (text ≡ 13 ∷ [])
IsCutFrom start text (line ∷ lines) = (line.start ≡ start) × (
    ((return behind : List ℕ) × BeginsWithLine text line.bytes return behind × IsCutFrom (start + length line.bytes + length return + 1) behind lines)
    ⊎ ((return : List ℕ) × IsLastLine text line.bytes return × (lines ≡ [])))

-- the text is cut into these lines
abbrev pub IsCut : List ℕ → List LineAt → Type 0
IsCut text lines = IsCutFrom 0 text lines

-- the parts of a text before, between and after its line feeds
abbrev pub parts : List ℕ → List (List ℕ)
parts text = slice_split (λ b. b == 10) text

-- The lines in such parts, of which the first begins at that byte of the text. One carriage return at
-- the end of a part belongs to the line's end. The last part, after which no line feed stands, is a
-- line where something else is in it.
unfoldable pub lines_in : ℕ → List (List ℕ) → List LineAt
lines_in start [] = []
lines_in start (part ∷ []) = let line = strip_carriage_return part in
    if length line == 0 then [] else record { start = start; bytes = line } ∷ []
lines_in start (part ∷ next ∷ others) =
    record { start = start; bytes = strip_carriage_return part } ∷ lines_in (start + length part + 1) (next ∷ others)

-- the lines of a text
abbrev pub lines_of : List ℕ → List LineAt
lines_of text = lines_in 0 (parts text)

-- the line stands in the text where it says
pub record LiesIn (text : List ℕ) (line : LineAt) : Type 0 where
  pub within : line.start + length line.bytes ≤ length text
  pub bytes_are : take (length line.bytes) (drop line.start text) ≡ line.bytes

-- The lines stand in the text, from that byte on, one after the other.
abbrev pub Follow : List ℕ → ℕ → List LineAt → Type 0
Follow text from [] = Unit {0}
Follow text from (line ∷ lines) = (from ≤ line.start) × LiesIn text line × Follow text (line.start + length line.bytes + 1) lines
