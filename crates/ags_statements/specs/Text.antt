-- What a text of statements says, by its name, its latest version, what its further lines state, and how it tells faults: its
-- statements, or its first fault.
use Rattle.std.specs.Prelude.{◌≡◌, ℕ, List, [], Some, None}
use Rattle.std.specs.List.{filter_map}
use Rattle.ags_text.specs.Fault.{first_fault}
use Rattle.ags_text.specs.Line.{lines_of}
use Rattle.ags_frame.specs.Fault.{Faults, reading_fault}
use Rattle.ags_frame.specs.Reading.{Reading, AreReadings, statement_of}
use Rattle.ags_statements.specs.declared.reading.TextError.{TextError}
use Rattle.ags_statements.specs.declared.reading.TextError.TheVariants.{At, NoMemory}

module _ {S F : Type 0} (name : List ℕ) (latest : ℕ) (States : List ℕ → S → Type 0) (its : Faults S F) where
  -- The text is without a fault, and these are its statements, in order.
  pub record IsTextOf (text : List ℕ) (statements : List S) : Type 0 where
    pub readings : List (Reading S)
    pub are_readings : AreReadings name latest States (lines_of text) readings
    pub faultless : first_fault (reading_fault its) [] readings ≡ None
    pub stated : statements ≡ filter_map statement_of readings

  -- the text's first faulty line is this one, counted from 1, with this fault; where its end is missing it is the line after the last
  pub record IsFaultyText (text : List ℕ) (line : ℕ) (fault : F) : Type 0 where
    pub readings : List (Reading S)
    pub are_readings : AreReadings name latest States (lines_of text) readings
    pub first : first_fault (reading_fault its) [] readings ≡ Some (line, fault)

  -- why a text was not read, where it was not want of memory
  abbrev pub IsRefused : List ℕ → TextError F → Type 0
  IsRefused text (At line fault) = IsFaultyText text line fault
  IsRefused text NoMemory = Unit {0}
