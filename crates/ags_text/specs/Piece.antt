-- A text that comes in pieces: the lines of it that have ended, and what has come of the next one.
use Rattle.std.specs.Prelude.{◌≡◌, ℕ, ◌+◌, List, [], ◌∷◌, ◌++◌, length, ◌==◌, if◌then◌else◌}
use Rattle.std.specs.Str.Lines.{strip_carriage_return}
use Rattle.ags_text.specs.Line.{LineAt, HasNoFeed, lines_in, lines_of, parts}

-- However the text goes on, its lines are these, which have ended, and after them those that begin with the rest. The rest
-- ends the text, and no line feed stands in it; a return at its end may be of the line's end, or of the line.
pub record HasEnded (text : List ℕ) (ended : List LineAt) (rest : List ℕ) : Type 0 where
  pub start : ℕ
  pub place : start + length rest ≡ length text
  pub on : (more : List ℕ) → lines_of (text ++ more) ≡ ended ++ lines_in start (parts (rest ++ more))
  pub unbroken : HasNoFeed rest

-- the line that the rest is, where it ends here
abbrev pub line_of : {text rest : List ℕ} {ended : List LineAt} → HasEnded text ended rest → LineAt
line_of {rest = rest} so = record { start = so.start; bytes = strip_carriage_return rest }

-- the line of the rest at the end of the text: none, where nothing but a return is in it
abbrev pub last_lines : {text rest : List ℕ} {ended : List LineAt} → HasEnded text ended rest → List LineAt
last_lines {rest = rest} so = if length (strip_carriage_return rest) == 0 then [] else line_of so ∷ []
