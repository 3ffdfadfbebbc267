-- The verdict of a certificate for an image on a machine. What is checked has an order: the first words of the erasable cells, the
-- start, and the rows.
use Rattle.std.specs.Prelude.{◌≡◌, ℕ, ◌<◌, ◌⊎◌, List, length, Any, Option, Result, Ok, Err, unwrap_or}
use Rattle.ags_domain.specs.Domain.{Meaning}
use Rattle.ags_image.specs.Image.{entry_at}
use Rattle.ags_ports.specs.declared.machines.Machine.{Machine}
use Rattle.ags_row.specs.Limit.{cell_limit}
use Rattle.ags_safe.specs.Certificate.{Certificate}
use Rattle.ags_safe.specs.Accepted.{IsFirstHeld, HoldsStart}
use Rattle.ags_verdict.specs.InOrder.{InOrder}
use Rattle.ags_verdict.specs.Fault.{IsRowJudgedAt}
use Rattle.ags_verdict.specs.declared.verdicts.Refusal.{Refusal}
use Rattle.ags_verdict.specs.declared.verdicts.Refusal.TheVariants.{InitRange, StartUncovered}
use Rattle.ags_verdict.specs.declared.verdicts.Verdict.{Verdict}
use Rattle.ags_verdict.specs.declared.verdicts.Verdict.TheVariants.{Certified, Refused}

module _ {D : Type 0} (meaning : Meaning D) (machine : Machine) (image : List (Option ℕ)) (cert : Certificate D) where
  -- the first word of the erasable cell at an address is in the cell's limit
  abbrev pub IsHeldAt : ℕ → Type 0
  IsHeldAt address = IsFirstHeld meaning (cell_limit cert.limits address) (entry_at image address) (cert.init address)

  -- so it is of each below an address
  abbrev pub AreHeldBelow : ℕ → Type 0
  AreHeldBelow bound = (address : ℕ) → address < bound → IsHeldAt address

  -- the first erasable cell whose first word isn't in its limit is told, with that word
  pub record IsInitRefused (told : Refusal D) : Type 0 where
    pub address : ℕ
    pub erasable : address < 2048
    pub first : AreHeldBelow address
    pub fails : ¬ IsHeldAt address
    pub is : told ≡ InitRange address (unwrap_or (entry_at image address) 0)

  -- some one row holds all that may stand at the start
  abbrev pub IsStartHeld : Type 0
  IsStartHeld = Any (HoldsStart meaning image cert) cert.rows

  -- how many cases the rows have, which are numbered from 1, or what fails first in them
  abbrev pub AreRowsJudged : Result ℕ (Refusal D) → Type 0
  AreRowsJudged outcome = InOrder (IsRowJudgedAt meaning cert machine image) 1 cert.rows outcome

  -- the first words are in their limits and the start is held, and this comes of the rows
  pub record IsJudgedByRows (outcome : Result ℕ (Refusal D)) : Type 0 where
    pub first_words : AreHeldBelow 2048
    pub start : IsStartHeld
    pub rows : AreRowsJudged outcome

  -- the first words are in their limits, and no row holds the start
  pub record IsStartRefused (told : Refusal D) : Type 0 where
    pub first_words : AreHeldBelow 2048
    pub fails : ¬ IsStartHeld
    pub is : told ≡ StartUncovered

  -- The verdict: all holds, with the numbers of rows and of cases; or the first item that fails.
  abbrev pub IsVerdict : Verdict D → Type 0
  IsVerdict (Certified rows cases) = IsJudgedByRows (Ok cases) × (rows ≡ length cert.rows)
  IsVerdict (Refused told) = IsInitRefused told ⊎ IsStartRefused told ⊎ IsJudgedByRows (Err told)
