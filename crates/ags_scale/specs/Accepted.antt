-- When scales are accepted for a certificate.
use Rattle.std.specs.Prelude.{◌≡◌, ℕ, ◌+◌, Bool, true, List, Option, Some}
use Rattle.ags_domain.specs.Domain.{Meaning}
use Rattle.ags_domain.specs.WordSet.{lists}
use Rattle.ags_domain.specs.declared.word_sets.WordSet.{WordSet}
use Rattle.ags_ports.specs.declared.machines.Machine.{Machine}
use Rattle.ags_row.specs.Flag.{has_flag, indicator_number}
use Rattle.ags_row.specs.declared.rows.Row.{Row}
use Rattle.ags_safe.specs.Case.{case_of, IsCode}
use Rattle.ags_safe.specs.Accepted.{Accepted}
use Rattle.ags_safe.specs.Certificate.{Certificate}
use Rattle.ags_safe.specs.Failing.{StandsAt}
use Rattle.ags_tags.specs.Tag.{Scaling}
use Rattle.ags_scale.specs.Tagging.{KeepsRowTags, IsStartTagged}

module _ {D : Type 0} (meaning : Meaning D) (machine : Machine) (image : List (Option ℕ)) (cert : Certificate D) (scales : Scaling) where
  -- a row has a code, and each word of it keeps the tags of the row's number, with each index and each indicator of the row
  pub record IsRowTagged (number : ℕ) (row : Row D) : Type 0 where
    pub code : WordSet
    pub is_code : IsCode meaning image cert.limits row (Some code)
    pub cases : (word index : ℕ) (indicator : Bool) → lists code.list word ≡ true → has_flag row.x index ≡ true
        → has_flag row.v (indicator_number indicator) ≡ true
        → KeepsRowTags meaning cert scales number (case_of machine image cert.limits row word index indicator)

  -- The certificate is accepted; some one row holds all that may stand at the start, and raw for A and Q; and each case keeps the tags
  -- of its row, which are numbered from 1: no two that meet are unlike, and with those after it each post is taken by some one row.
  pub record AreScalesAccepted : Type 0 where
    pub accepted : Accepted meaning machine image cert
    pub start : IsStartTagged meaning cert scales image
    pub rows : (position : ℕ) (row : Row D) → StandsAt cert position row → IsRowTagged (position + 1) row
