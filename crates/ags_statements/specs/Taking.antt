-- A line that is taken, or its fault, by what is gathered of those before it.
use Rattle.std.specs.Prelude.{◌≡◌, ℕ, List, ◌∷◌, Some, None}
use Rattle.ags_frame.specs.Fault.{Faults}
use Rattle.ags_frame.specs.Reading.{Reading, Opening, OtherOpening, Stated, Skipped, Malformed, Ended, IsReading}
use Rattle.ags_statements.specs.declared.gathers.Untaken.{Untaken}
use Rattle.ags_statements.specs.declared.gathers.Untaken.TheVariants.{Faulty, NoMemory}
use Rattle.ags_statements.specs.declared.reading.TextError.{TextError}
use Rattle.ags_statements.specs.declared.reading.TextError.TheVariants as error

-- The statement is taken in a text of a version, whatever the statements are that were gathered: it has no fault after them, and is gathered with them then.
abbrev pub TakesStatement : {G S F : Type 0} → (gathered : G → List S → Type 0) → Faults S F → (version : ℕ) → (old : G) → S → (new : G) → Type 0
TakesStatement {S} gathered its version old statement new =
    (before : List S) → gathered old before → (its.fault_after version before statement ≡ None) × gathered new (statement ∷ before)

-- the statement isn't taken: after those that were gathered it has this fault, or there was no memory
abbrev pub TellsUntaken : {G S F : Type 0} → (gathered : G → List S → Type 0) → Faults S F → (version : ℕ) → (old : G) → S → Untaken F → Type 0
TellsUntaken {S} gathered its version old statement (Faulty fault) = (before : List S) → gathered old before → its.fault_after version before statement ≡ Some fault
TellsUntaken gathered its version old statement NoMemory = Unit {0}

-- the reading of a further line is taken: its statement, if it makes one, is taken
abbrev pub TakesReading : {G S F : Type 0} → (gathered : G → List S → Type 0) → Faults S F → (version : ℕ) → (old : G) → Reading S → (new : G) → Type 0
TakesReading gathered its version old (Stated statement) new = TakesStatement gathered its version old statement new
TakesReading gathered its version old Skipped new = new ≡ old
TakesReading gathered its version old (Opening other) new = ⊥
TakesReading gathered its version old OtherOpening new = ⊥
TakesReading gathered its version old Malformed new = ⊥
TakesReading gathered its version old Ended new = ⊥

-- the line is taken by its reading
abbrev pub TakesLine : {G S F : Type 0} → (States : List ℕ → S → Type 0) → (gathered : G → List S → Type 0) → Faults S F → (version : ℕ) → (old : G) → List ℕ → (new : G) → Type 0
TakesLine {S = S} States gathered its version old line new = (reading : Reading S) × IsReading States line reading × TakesReading gathered its version old reading new

-- the reading of a further line isn't taken, for this fault
abbrev pub TellsReading : {G S F : Type 0} → (gathered : G → List S → Type 0) → Faults S F → (version : ℕ) → (old : G) → Reading S → Untaken F → Type 0
TellsReading gathered its version old (Stated statement) why = TellsUntaken gathered its version old statement why
TellsReading gathered its version old Malformed why = why ≡ Faulty its.bad_line
TellsReading gathered its version old Skipped why = ⊥
TellsReading gathered its version old (Opening other) why = ⊥
TellsReading gathered its version old OtherOpening why = ⊥
TellsReading gathered its version old Ended why = ⊥

-- the line isn't taken, by its reading
abbrev pub TellsLine : {G S F : Type 0} → (States : List ℕ → S → Type 0) → (gathered : G → List S → Type 0) → Faults S F → (version : ℕ) → (old : G) → List ℕ → Untaken F → Type 0
TellsLine {S = S} States gathered its version old line why = (reading : Reading S) × IsReading States line reading × TellsReading gathered its version old reading why

-- the error of a line that isn't taken, by its number
abbrev pub error_at : {F : Type 0} → ℕ → Untaken F → TextError F
error_at line (Faulty fault) = error.At line fault
error_at line NoMemory = error.NoMemory
