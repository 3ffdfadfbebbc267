-- What a clause sees of a line.
use Rattle.ags_text.specs.declared.lines.Line.{Line}
use Rattle.ags_text.specs.Line.{LineAt}

-- a line without where its bytes lie in memory
abbrev pub line_at : Line → LineAt
line_at line = record { start = line.start; bytes = line.bytes.now }
