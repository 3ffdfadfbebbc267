-- The lines of a text that end at line feeds alone: what it is to be cut there, and as it is cut.
use Rattle.std.specs.Prelude.{◌≡◌, ℕ, ◌<◌, ◌⊎◌, List, [], ◌∷◌, ◌++◌, length}
use Rattle.ags_text.specs.Line.{HasNoFeed, parts}

-- The text is these lines, each with a line feed after it, but that the last may have none where it isn't empty.
abbrev pub IsCutAtFeeds : List ℕ → List (List ℕ) → Type 0
IsCutAtFeeds text [] = text ≡ []
IsCutAtFeeds text (line ∷ lines) = HasNoFeed line × (
    ((behind : List ℕ) × (text ≡ line ++ 10 ∷ behind) × IsCutAtFeeds behind lines)
    ⊎ ((text ≡ line) × (0 < length line) × (lines ≡ [])))

-- what stands after the last line feed is a line where it isn't empty
unfoldable pub last_line : List ℕ → List (List ℕ)
last_line [] = []
last_line (b ∷ part) = (b ∷ part) ∷ []

-- the lines in the parts of a text before, between and after its line feeds
unfoldable pub lines_in_parts : List (List ℕ) → List (List ℕ)
lines_in_parts [] = []
lines_in_parts (part ∷ []) = last_line part
lines_in_parts (part ∷ next ∷ others) = part ∷ lines_in_parts (next ∷ others)

-- the lines of a text
abbrev pub feed_lines : List ℕ → List (List ℕ)
feed_lines text = lines_in_parts (parts text)
