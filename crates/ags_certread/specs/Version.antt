-- Texts of version 1.
use Rattle.std.specs.Prelude.{List, [], ◌∷◌}
use Rattle.ags_text.specs.Line.{LineAt}
use Rattle.ags_frame.specs.Opening.{Opens}
use Rattle.ags_certtext.specs.Reading.{cert_name}
use Rattle.ags_certtext.specs.declared.statements.Statement.{Statement}
use Rattle.ags_certtext.specs.declared.statements.Statement.TheVariants.{Linked}

-- the first of a text's lines opens version 1
abbrev pub OpensFirstVersion : List LineAt → Type 0
OpensFirstVersion [] = ⊥
OpensFirstVersion (line ∷ lines) = Opens cert_name 1 line.bytes

-- none of the statements is a link
abbrev pub StatesNoLink : List Statement → Type 0
StatesNoLink [] = Unit {0}
StatesNoLink (Linked link ∷ statements) = ⊥
StatesNoLink (_ ∷ statements) = StatesNoLink statements
