-- What fails in a case and in a row, and how a refusal tells it.
use Rattle.std.specs.Prelude.{◌≡◌, ℕ, ◌⊎◌, List, Option, Some, None, IfSome, Result, Ok, Err}
use Rattle.ags_domain.specs.Domain.{Meaning}
use Rattle.ags_domain.specs.declared.word_sets.WordSet.{WordSet}
use Rattle.ags_ports.specs.declared.machines.Machine.{Machine}
use Rattle.ags_row.specs.declared.posts.Post.{Post}
use Rattle.ags_row.specs.declared.rows.Row.{Row}
use Rattle.ags_safe.specs.Case.{Case, IsCode}
use Rattle.ags_safe.specs.Posts.{Outcome, IsPostsOfCase}
use Rattle.ags_safe.specs.declared.answers.PostPair.{PostPair}
use Rattle.ags_safe.specs.declared.answers.Stop.{Stop}
use Rattle.ags_safe.specs.declared.answers.Stop.TheVariants as stop
use Rattle.ags_safe.specs.Certificate.{Certificate}
use Rattle.ags_safe.specs.Accepted.{IsCovered, IsCaseAccepted}
use Rattle.ags_verdict.specs.InOrder.{InOrder}
use Rattle.ags_verdict.specs.RowCase.{cases_in, case_in}
use Rattle.ags_verdict.specs.declared.verdicts.RowFault.{RowFault}
use Rattle.ags_verdict.specs.declared.verdicts.RowFault.TheVariants as fault
use Rattle.ags_verdict.specs.declared.verdicts.Refusal.{Refusal}
use Rattle.ags_verdict.specs.declared.verdicts.Refusal.TheVariants as refusal

-- ---- the refusal

-- the refusal that tells a stop, by the row's number and the case's word
abbrev pub refusal_of_stop : {D : Type 0} → (number word : ℕ) → Stop D → Refusal D
refusal_of_stop number word stop.NoOrder = refusal.NoOrder number word
refusal_of_stop number word stop.BadPort = refusal.BadPort number word
refusal_of_stop number word (stop.FixedWrite address) = refusal.FixedWrite number word address
refusal_of_stop number word (stop.MayOverflow operands) = refusal.MayOverflow number word operands
refusal_of_stop number word (stop.CellRange address value) = refusal.CellRange number word address value
refusal_of_stop number word (stop.OutputRange address value) = refusal.OutputRange number word address value

-- the refusal that tells what fails in a row, by the row's number
abbrev pub refusal_of : {D : Type 0} → (number : ℕ) → RowFault D → Refusal D
refusal_of number fault.CodeUnknown = refusal.CodeUnknown number
refusal_of number (fault.Stops word stop) = refusal_of_stop number word stop
refusal_of number (fault.NotCovered word x v next) = refusal.NotCovered number word x v next

module _ {D : Type 0} (meaning : Meaning D) (cert : Certificate D) where
  -- ---- a case

  -- the post that may be there is there, and no one row covers it
  abbrev pub IsUncovered : Row D → Option (Post D) → (next : ℕ) → Type 0
  IsUncovered row None next = ⊥
  IsUncovered row (Some post) next = (¬ IsCovered meaning cert row post) × (next ≡ post.next)

  -- the first post of two that no one row covers goes to the location
  abbrev pub IsFirstUncovered : Row D → PostPair D → (next : ℕ) → Type 0
  IsFirstUncovered row pair next =
      IsUncovered row pair.first next ⊎ (IfSome pair.first (IsCovered meaning cert row) × IsUncovered row pair.second next)

  -- what the answer at a case fails by: a stop, or a post that isn't covered
  abbrev pub IsFaultOfAnswer : Case D → Outcome D → RowFault D → Type 0
  IsFaultOfAnswer c (Err why) told = told ≡ fault.Stops c.word why
  IsFaultOfAnswer c (Ok pair) told = (next : ℕ) × IsFirstUncovered c.row pair next × (told ≡ fault.NotCovered c.word c.index c.indicator next)

  -- a case is accepted, and counts once; or it fails
  abbrev pub IsCaseJudged : Case D → Result ℕ (RowFault D) → Type 0
  IsCaseJudged c (Ok count) = IsCaseAccepted meaning cert c × (count ≡ 1)
  IsCaseJudged c (Err told) = (answer : Outcome D) × IsPostsOfCase meaning c answer × IsFaultOfAnswer c answer told

  -- ---- a row

  module _ (machine : Machine) (image : List (Option ℕ)) where
    -- a row with the code that it has, or without one: how many cases it has, or what fails first in it
    abbrev pub IsJudgedWith : Row D → Option WordSet → Result ℕ (RowFault D) → Type 0
    IsJudgedWith row None outcome = outcome ≡ Err fault.CodeUnknown
    IsJudgedWith row (Some code) outcome =
        InOrder (λ position c. IsCaseJudged (case_in machine image cert.limits row c)) 0 (cases_in row code.list) outcome

    -- How many cases a row has, or what fails first in it.
    abbrev pub IsRowJudged : Row D → Result ℕ (RowFault D) → Type 0
    IsRowJudged row outcome = (code : Option WordSet) × IsCode meaning image cert.limits row code × IsJudgedWith row code outcome

    -- so it is, and a refusal tells the row's number
    abbrev pub IsRowJudgedAt : (number : ℕ) → Row D → Result ℕ (Refusal D) → Type 0
    IsRowJudgedAt number row (Ok count) = IsRowJudged row (Ok count)
    IsRowJudgedAt number row (Err told) = (found : RowFault D) × IsRowJudged row (Err found) × (told ≡ refusal_of number found)
