-- What each statement of a line keeps that tells no fault is so of all statements of a text without a fault.
use Rattle.std.proofs.Common.{◌≡◌, ℕ, Bool, true, false, refl, sym, ap, ◌∙◌, subst, List, [], ◌∷◌, ◌++◌, reverse, Option, Some, None, append_assoc}
use Rattle.std.specs.List.{AllByRecursion, filter_map}
use Rattle.std.proofs.lemmas.List.{append-nil}
use Rattle.ags_text.specs.Fault.{first_fault, first_fault-faulty, first_fault-faultless}
use Rattle.ags_frame.specs.Fault.{Faults, reading_fault, version_of}
use Rattle.ags_text.specs.Line.{LineAt, lines_of}
use Rattle.ags_text.specs.Reading.{AreReadingsBy}
use Rattle.ags_frame.specs.Reading.{Reading, Opening, OtherOpening, Stated, Skipped, Malformed, Ended, IsFirstReading, IsReading, AreLineReadings, statement_of}
use Rattle.ags_statements.specs.Fault.{fault_if}
use Rattle.ags_statements.specs.Text.{IsTextOf}
use Rattle.ags_statements.proofs.ReadLemmas.{chosen_reversed, reverse-more}

-- where no fault is told, the test fails, and no later one is told
pub no_fault : {F : Type 0} (test : Bool) (fault : F) (later : Option F) → fault_if test fault later ≡ None → (test ≡ false) × (later ≡ None)
no_fault true fault later none = absurd cc
no_fault false fault later none = (refl, none)

no_first_fault : {X F : Type 0} (fault : List X → X → Option F) (before : List X) (x : X) (rest : List X) → first_fault fault before (x ∷ rest) ≡ None
    → (fault before x ≡ None) × (first_fault fault (x ∷ before) rest ≡ None)
no_first_fault {F = F} fault before x rest none = by_head (fault before x) refl
  where
    by_head : (head : Option F) → fault before x ≡ head → (fault before x ≡ None) × (first_fault fault (x ∷ before) rest ≡ None)
    by_head None is = (is, sym (first_fault-faultless fault before x rest is) ∙ none)
    by_head (Some wrong) is = let told = sym (first_fault-faulty fault before x rest wrong is) ∙ none in absurd cc

module _ {S F : Type 0} (name : List ℕ) (latest : ℕ) (States : List ℕ → S → Type 0) (its : Faults S F) (Kept : List S → Type 0)
    (statement_kept : (before : List S) (line : List ℕ) (statement : S) (version : ℕ) → States line statement → Kept before
    → its.fault_after version before statement ≡ None → Kept (statement ∷ before)) where
  -- a line states what is read of it, where that is a statement
  IsOfLine : Reading S → Type 0
  IsOfLine (Stated statement) = (line : List ℕ) × States line statement
  IsOfLine reading = Unit {0}

  of_first : (line : List ℕ) (reading : Reading S) → IsFirstReading name latest line reading → IsOfLine reading
  unfolding IsOfLine
  of_first line (Stated statement) is = absurd is
  of_first line (Opening version) is = tt
  of_first line OtherOpening is = tt
  of_first line Skipped is = tt
  of_first line Malformed is = tt
  of_first line Ended is = tt

  of_further : (line : List ℕ) (reading : Reading S) → IsReading States line reading → IsOfLine reading
  unfolding IsOfLine
  of_further line (Stated statement) is = (line, is.states)
  of_further line (Opening version) is = tt
  of_further line OtherOpening is = tt
  of_further line Skipped is = tt
  of_further line Malformed is = tt
  of_further line Ended is = tt

  all_further : (lines : List LineAt) (readings : List (Reading S)) → AreReadingsBy (IsReading States) lines readings → AllByRecursion IsOfLine readings
  all_further [] [] are = tt
  all_further (line ∷ lines) (reading ∷ readings) are = (of_further line.bytes reading are.0, all_further lines readings are.1)
  all_further [] (reading ∷ readings) are = absurd are
  all_further (line ∷ lines) [] are = absurd are

  all_lines : (lines : List LineAt) (readings : List (Reading S)) → AreLineReadings name latest States lines readings → AllByRecursion IsOfLine readings
  all_lines [] [] are = tt
  all_lines (line ∷ lines) (reading ∷ readings) are = (of_first line.bytes reading are.0, all_further lines readings are.1)
  all_lines [] (reading ∷ readings) are = absurd are
  all_lines (line ∷ lines) [] are = absurd are

  and_ended : (readings : List (Reading S)) → AllByRecursion IsOfLine readings → AllByRecursion IsOfLine (readings ++ Ended ∷ [])
  unfolding IsOfLine
  and_ended [] all = (tt, tt)
  and_ended (reading ∷ readings) all = (all.0, and_ended readings all.1)

  reading_kept : (before : List (Reading S)) (reading : Reading S) → IsOfLine reading → Kept (filter_map statement_of before) → reading_fault its before reading ≡ None
      → Kept (filter_map statement_of (reading ∷ before))
  unfolding IsOfLine
  reading_kept before (Stated statement) of_line kept none = statement_kept (filter_map statement_of before) of_line.0 statement (version_of before) of_line.1 kept none
  reading_kept before (Opening version) of_line kept none = kept
  reading_kept before OtherOpening of_line kept none = kept
  reading_kept before Skipped of_line kept none = kept
  reading_kept before Malformed of_line kept none = kept
  reading_kept before Ended of_line kept none = kept

  turned : (one : Reading S) (rest before : List (Reading S)) → reverse rest ++ (one ∷ before) ≡ reverse (one ∷ rest) ++ before
  turned one rest before = sym (ap (λ (l : List (Reading S)). l ++ before) (reverse-more one rest) ∙ append_assoc (reverse rest) (one ∷ []) before)

  readings_kept : (before rest : List (Reading S)) → AllByRecursion IsOfLine rest → Kept (filter_map statement_of before) → first_fault (reading_fault its) before rest ≡ None
      → Kept (filter_map statement_of (reverse rest ++ before))
  readings_kept before [] of_lines kept none = kept
  readings_kept before (reading ∷ rest) of_lines kept none =
      let here = no_first_fault (reading_fault its) before reading rest none in
      let all = readings_kept (reading ∷ before) rest of_lines.1 (reading_kept before reading of_lines.0 kept here.0) here.1 in
      subst (λ (l : List (Reading S)). Kept (filter_map statement_of l)) (turned reading rest before) all

  -- of the statements of a text, nearest first
  pub text_kept : Kept [] → (text : List ℕ) (statements : List S) → IsTextOf name latest States its text statements → Kept (reverse statements)
  text_kept nothing text statements is =
      let are = is.are_readings in
      let of_lines = subst (λ (l : List (Reading S)). AllByRecursion IsOfLine l) (sym are.whole) (and_ended are.of_lines (all_lines (lines_of text) are.of_lines are.are)) in
      let all = readings_kept [] is.readings of_lines nothing is.faultless in
      rw is.stated (subst Kept (ap (λ (l : List (Reading S)). filter_map statement_of l) (append-nil (reverse is.readings)) ∙ chosen_reversed statement_of is.readings) all)
