-- The line that is printed of what a play met, without its line feed.
use Rattle.std.specs.Prelude.{ℕ, List, [], ◌++◌, codes}
use Rattle.ags_text.specs.Numeral.{octal4_text, octal6_text}
use Rattle.ags_play.specs.Doing.{PutWord}
use Rattle.ags_play.specs.Guard.{Outside, Place, Cell, Port}
use Rattle.ags_play.specs.Played.{Met, Nothing, OutsideStart, OutsidePut}

-- an address as four octal digits, a space, and a word as six
abbrev pub at_text : (address word : ℕ) → List ℕ
at_text address word = octal4_text address ++ codes " " ++ octal6_text word

-- two locations as four octal digits each, with a space between them
abbrev pub locations_text : (script cert : ℕ) → List ℕ
locations_text script cert = octal4_text script ++ codes " " ++ octal4_text cert

-- of a start: the two locations, or the cell or the input register with its word
abbrev pub outside_text : Outside → List ℕ
outside_text (Place script cert) = codes "OUTSIDE START " ++ locations_text script cert
outside_text (Cell address word) = codes "OUTSIDE CELL " ++ at_text address word
outside_text (Port address word) = codes "OUTSIDE PORT " ++ at_text address word

-- of a word that was stopped: the register's address and the word
abbrev pub put_text : PutWord → List ℕ
put_text put = codes "OUTSIDE IN " ++ at_text put.address put.word

-- of what a play met; of nothing, nothing
abbrev pub met_text : Met → List ℕ
met_text Nothing = []
met_text (OutsideStart outside) = outside_text outside
met_text (OutsidePut put) = put_text put
