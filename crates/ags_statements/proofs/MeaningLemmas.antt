-- A text means something, and one thing.
use Rattle.std.proofs.Common.{◌≡◌, ℕ, ◌⊎◌, refl, sym, ap, ◌∙◌, List, [], ◌∷◌, ◌++◌, Option, Some, None, inl, inr}
use Rattle.std.specs.List.{filter_map}
use Rattle.ags_text.specs.Fault.{first_fault}
use Rattle.ags_text.specs.Line.{LineAt, lines_of}
use Rattle.ags_text.specs.Reading.{AreReadingsBy}
use Rattle.ags_frame.specs.Fault.{Faults, reading_fault}
use Rattle.ags_frame.specs.Reading.{Reading, Ended, IsFirstReading, IsReading, AreLineReadings, AreReadings, statement_of}
use Rattle.ags_statements.specs.Text.{IsTextOf, IsFaultyText}
use Rattle.ags_statements.proofs.ReadLemmas.{EachIsRead, have_readings}

module _ {S F : Type 0} (name : List ℕ) (latest : ℕ) (States : List ℕ → S → Type 0)
    (some_first : (line : List ℕ) → (reading : Reading S) × IsFirstReading name latest line reading)
    (one_first : (line : List ℕ) (reading other : Reading S) → IsFirstReading name latest line reading → IsFirstReading name latest line other → reading ≡ other)
    (each : EachIsRead States)
    (one_reading : (line : List ℕ) (reading other : Reading S) → IsReading States line reading → IsReading States line other → reading ≡ other)
    (its : Faults S F) (text : List ℕ) where
  -- ---- its readings

  same_further : (lines : List LineAt) (one other : List (Reading S)) → AreReadingsBy (IsReading States) lines one → AreReadingsBy (IsReading States) lines other → one ≡ other
  same_further [] [] [] first second = refl
  same_further [] (reading ∷ one) other first second = absurd first
  same_further [] [] (reading ∷ other) first second = absurd second
  same_further (line ∷ lines) [] other first second = absurd first
  same_further (line ∷ lines) (reading ∷ one) [] first second = absurd second
  same_further (line ∷ lines) (reading ∷ one) (its_other ∷ other) first second =
      let head = one_reading line.bytes reading its_other first.0 second.0 in
      let rest = same_further lines one other first.1 second.1 in
      rw (head, rest) refl

  same_lines : (lines : List LineAt) (one other : List (Reading S)) → AreLineReadings name latest States lines one → AreLineReadings name latest States lines other → one ≡ other
  same_lines [] [] [] first second = refl
  same_lines [] (reading ∷ one) other first second = absurd first
  same_lines [] [] (reading ∷ other) first second = absurd second
  same_lines (line ∷ lines) [] other first second = absurd first
  same_lines (line ∷ lines) (reading ∷ one) [] first second = absurd second
  same_lines (line ∷ lines) (reading ∷ one) (its_other ∷ other) first second =
      let head = one_first line.bytes reading its_other first.0 second.0 in
      let rest = same_further lines one other first.1 second.1 in
      rw (head, rest) refl

  same_readings : (one other : List (Reading S)) → AreReadings name latest States (lines_of text) one → AreReadings name latest States (lines_of text) other → one ≡ other
  same_readings one other first second =
      first.whole ∙ ap (λ (l : List (Reading S)). l ++ Ended ∷ []) (same_lines (lines_of text) first.of_lines second.of_lines first.are second.are) ∙ sym second.whole

  some_lines : (lines : List LineAt) → (readings : List (Reading S)) × AreLineReadings name latest States lines readings
  some_lines [] = ([], tt)
  some_lines (line ∷ lines) =
      let first = some_first line.bytes in
      let rest = have_readings States each lines in
      (first.0 ∷ rest.0, (first.1, rest.1))

  -- ---- what it means

  pub some_meaning : ((statements : List S) × IsTextOf name latest States its text statements) ⊎ ((line : ℕ) × (fault : F) × IsFaultyText name latest States its text line fault)
  some_meaning =
      let lines = some_lines (lines_of text) in
      let all : List (Reading S) = lines.0 ++ Ended ∷ [] in
      let are : AreReadings name latest States (lines_of text) all = record { of_lines = lines.0; are = lines.1; whole = refl } in
      by_fault all are (first_fault (reading_fault its) [] all) refl
    where
      by_fault : (all : List (Reading S)) → AreReadings name latest States (lines_of text) all → (found : Option (ℕ × F)) → first_fault (reading_fault its) [] all ≡ found
          → ((statements : List S) × IsTextOf name latest States its text statements) ⊎ ((line : ℕ) × (fault : F) × IsFaultyText name latest States its text line fault)
      by_fault all are None is = inl (filter_map statement_of all, record { readings = all; are_readings = are; faultless = is; stated = refl })
      by_fault all are (Some found) is = inr (found.0, found.1, record { readings = all; are_readings = are; first = is })

  pub one_text : (one other : List S) → IsTextOf name latest States its text one → IsTextOf name latest States its text other → one ≡ other
  one_text one other first second =
      first.stated ∙ ap (λ (l : List (Reading S)). filter_map statement_of l) (same_readings first.readings second.readings first.are_readings second.are_readings) ∙ sym second.stated

  same_fault : (line other_line : ℕ) (fault other_fault : F) → ◌≡◌ {A = Option (ℕ × F)} (Some (line, fault)) (Some (other_line, other_fault)) → (line ≡ other_line) × (fault ≡ other_fault)
  same_fault line other_line fault other_fault same =
      let pairs : ◌≡◌ {A = ℕ × F} (line, fault) (other_line, other_fault) = cc in
      (ap (λ (p : ℕ × F). p.0) pairs, ap (λ (p : ℕ × F). p.1) pairs)

  pub one_fault : (line other_line : ℕ) (fault other_fault : F) → IsFaultyText name latest States its text line fault → IsFaultyText name latest States its text other_line other_fault
      → (line ≡ other_line) × (fault ≡ other_fault)
  one_fault line other_line fault other_fault first second =
      same_fault line other_line fault other_fault
      (sym first.first ∙ ap (λ (l : List (Reading S)). first_fault (reading_fault its) [] l) (same_readings first.readings second.readings first.are_readings second.are_readings) ∙ second.first)

  pub not_both : (statements : List S) (line : ℕ) (fault : F) → IsTextOf name latest States its text statements → IsFaultyText name latest States its text line fault → ⊥
  not_both statements line fault fine faulty =
      let clash : ◌≡◌ {A = Option (ℕ × F)} None (Some (line, fault)) =
      sym fine.faultless ∙ ap (λ (l : List (Reading S)). first_fault (reading_fault its) [] l) (same_readings fine.readings faulty.readings fine.are_readings faulty.are_readings) ∙ faulty.first in
      absurd cc
