-- The verdict without its nesting.
use Rattle.std.specs.Prelude.{◌≡◌, ℕ, ◌+◌, ◌⊎◌, List, [], ◌∷◌, ◌++◌, length, All, Option, Some, None, Err}
use Rattle.ags_domain.specs.Domain.{Meaning}
use Rattle.ags_domain.specs.declared.word_sets.WordSet.{WordSet}
use Rattle.ags_ports.specs.declared.machines.Machine.{Machine}
use Rattle.ags_row.specs.Limit.{Limiting}
use Rattle.ags_row.specs.declared.rows.Row.{Row}
use Rattle.ags_safe.specs.Case.{IsCode}
use Rattle.ags_safe.specs.Certificate.{Certificate}
use Rattle.ags_safe.specs.Accepted.{IsCaseAccepted, IsRowAccepted}
use Rattle.ags_verdict.specs.RowCase.{RowCase, cases_in, case_in}
use Rattle.ags_verdict.specs.Fault.{refusal_of, IsCaseJudged}
use Rattle.ags_verdict.specs.Verdict.{AreHeldBelow, IsInitRefused, IsStartHeld, IsStartRefused}
use Rattle.ags_verdict.specs.declared.verdicts.RowFault.{RowFault}
use Rattle.ags_verdict.specs.declared.verdicts.RowFault.TheVariants.{CodeUnknown}
use Rattle.ags_verdict.specs.declared.verdicts.Refusal.{Refusal}

-- each row has a code, and this is the number of their cases
abbrev pub IsNumberOfCases : {D : Type 0} → Meaning D → List (Option ℕ) → Limiting D → List (Row D) → ℕ → Type 0
IsNumberOfCases meaning image limits [] number = number ≡ 0
IsNumberOfCases meaning image limits (row ∷ rows) number = (code : WordSet) × (rest : ℕ) × IsCode meaning image limits row (Some code)
    × IsNumberOfCases meaning image limits rows rest × (number ≡ length (cases_in row code.list) + rest)

module _ {D : Type 0} (meaning : Meaning D) (machine : Machine) (image : List (Option ℕ)) (cert : Certificate D) where
  -- one case of a row fails, and those before it are accepted
  pub record IsFirstCase (row : Row D) (code : WordSet) (told : RowFault D) : Type 0 where
    pub before : List RowCase
    pub fails : RowCase
    pub behind : List RowCase
    pub splits : cases_in row code.list ≡ before ++ (fails ∷ behind)
    pub accepted : All (λ c. IsCaseAccepted meaning cert (case_in machine image cert.limits row c)) before
    pub fault : IsCaseJudged meaning cert (case_in machine image cert.limits row fails) (Err told)

  -- the first that fails in a row: that it has no code, or a case
  abbrev pub IsFirstInRow : Row D → Option WordSet → RowFault D → Type 0
  IsFirstInRow row None told = told ≡ CodeUnknown
  IsFirstInRow row (Some code) told = IsFirstCase row code told

  -- one row fails, and those before it are accepted; its number is one more than theirs
  pub record IsFirstRow (told : Refusal D) : Type 0 where
    pub first_words : AreHeldBelow meaning machine image cert 2048
    pub start : IsStartHeld meaning machine image cert
    pub before : List (Row D)
    pub fails : Row D
    pub behind : List (Row D)
    pub splits : cert.rows ≡ before ++ (fails ∷ behind)
    pub accepted : All (IsRowAccepted meaning machine image cert) before
    pub code : Option WordSet
    pub is_code : IsCode meaning image cert.limits fails code
    pub fault : RowFault D
    pub first : IsFirstInRow fails code fault
    pub is : told ≡ refusal_of (length before + 1) fault

  -- The first item that fails: a first word, the start, or an item of a row.
  abbrev pub IsFirstFailing : Refusal D → Type 0
  IsFirstFailing told = IsInitRefused meaning machine image cert told ⊎ IsStartRefused meaning machine image cert told ⊎ IsFirstRow told
