-- What a reader of pieces has taken.
use Rattle.std.specs.Prelude.{◌≡◌, ℕ, ◌<◌, ◌≤◌, List, ◌++◌, length}
use Rattle.ags_text.specs.Line.{LineAt}
use Rattle.ags_text.specs.Piece.{HasEnded}
use Rattle.ags_ports.specs.Port.{Registers}
use Rattle.ags_certtext.specs.Text.{IsFaultyCert}
use Rattle.ags_certread.specs.Gathered.{AreTaken}
use Rattle.ags_certread.specs.Gathering.{Gathering}
use Rattle.ags_certread.specs.Kept.{Kept}
use Rattle.ags_certread.specs.Length.{certificate_limit}
use Rattle.ags_certread.specs.declared.states.State.{State}
use Rattle.ags_certread.specs.declared.states.State.TheVariants.{Open, Told, Spent}

-- The lines of the text that have ended were taken without a fault, and the rest is of the next one. Of a text within the limit
-- the number is how many have ended; of any text it is 0 exactly where none has.
pub record Standing (ports : Registers) (rest : List ℕ) (number : ℕ) (g : Gathering) (text : List ℕ) : Type 0 where
  pub ended : List LineAt
  pub cut : HasEnded text ended rest
  pub taken : AreTaken ports ended g
  pub few : length ended ≤ length text
  pub none : number ≡ 0 → length ended ≡ 0
  pub some : 0 < number → 0 < length ended
  pub many : length text ≤ certificate_limit → number ≡ length ended

-- The reader stands as after a text. Once it has found a fault, that is the first one, however the text goes on within the limit.
abbrev pub TookCert : (ports : Registers) (rest : List ℕ) (number : ℕ) → Gathering → State → (text : List ℕ) → Type 0
TookCert ports rest number g Open text = Standing ports rest number g text
TookCert ports rest number g (Told line kind) text =
    (more : List ℕ) → length (text ++ more) ≤ certificate_limit → IsFaultyCert ports (text ++ more) line kind
TookCert ports rest number g Spent text = ⊥

-- so stands this reader
abbrev pub took_cert : Kept → List ℕ → Type 0
took_cert reader text = TookCert reader.ports reader.rest reader.number reader.gathered reader.state text
