-- Each line has a reading, and only one.
--
-- The crates above may cite some_reading, one_reading, some_first_reading and one_first_reading, each of them behind a clause of the
-- laws line_has_one_reading and first_line_has_one_reading.
use Rattle.std.proofs.Common.{◌≡◌, ℕ, List, refl, sym, ◌∙◌, inl, inr, arith}
use Rattle.ags_text.specs.Field.{IsField}
use Rattle.ags_text.proofs.Deciding.{Found}
use Rattle.ags_frame.proofs.ReadingLaws as frame
use Rattle.ags_certtext.specs.declared.statements.Statement.{Statement}
use Rattle.ags_certtext.specs.Spelling.{States}
use Rattle.ags_certtext.specs.Reading.{Reading, IsFirstReading, IsReading, cert_name, latest_version}
use Rattle.ags_certtext.proofs.StatementFound.{statement_found}
use Rattle.ags_certtext.proofs.StatementLemmas.{idle_states_nothing}

-- a line states something, or nothing
pub some_statement : (line : List ℕ) → Found Statement (States line)
some_statement line =
    elim (statement_found line) [
      | inl found ↦ inl (found.it, found.is)
      | inr none ↦ inr none
    ]

-- and one thing at most
pub one_statement : (line : List ℕ) (one other : Statement) → States line one → States line other → one ≡ other
one_statement line one other is also =
    elim (statement_found line) [
      | inr none ↦ absurd (none one is)
      | inl found ↦ found.one one is ∙ sym (found.one other also)
    ]

-- each line has a reading
pub some_reading : (line : List ℕ) → (reading : Reading) × IsReading line reading
some_reading = frame.some_reading States some_statement

-- and only one
pub one_reading : (line : List ℕ) (reading other : Reading) → IsReading line reading → IsReading line other → reading ≡ other
one_reading line = frame.one_reading States line (one_statement line) (idle_states_nothing line)

-- the name of a certificate is a field
pub name_field : IsField cert_name
name_field = record { some = omega arith; marks = refl }

-- each first line has a reading
pub some_first_reading : (line : List ℕ) → (reading : Reading) × IsFirstReading line reading
some_first_reading line = frame.some_first_reading cert_name latest_version line name_field

-- and only one
pub one_first_reading : (line : List ℕ) (reading other : Reading) → IsFirstReading line reading → IsFirstReading line other → reading ≡ other
one_first_reading line reading other is also = frame.one_first_reading cert_name latest_version line reading other name_field is also
