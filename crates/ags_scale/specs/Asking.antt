-- What serves inside: what the cases are asked with, and what is asked of a row that takes a post.
use Rattle.std.specs.Prelude.{ℕ, List, Option, Result}
use Rattle.ags_domain.specs.Value.{value_meaning}
use Rattle.ags_domain.specs.declared.values.Value.{Value}
use Rattle.ags_ports.specs.declared.machines.Machine.{Machine}
use Rattle.ags_row.specs.declared.rows.Row.{Row}
use Rattle.ags_safe.specs.Accepted.{IsCaseAccepted}
use Rattle.ags_verdict.specs.RowCase.{RowCase, case_in}
use Rattle.ags_certtype.specs.Cert.{Stated, certificate_of}
use Rattle.ags_tags.specs.declared.tags.RowTags.{RowTags}
use Rattle.ags_tags.specs.Tag.{Scaling, tags_of_row}
use Rattle.ags_scale.specs.RowChange.{TakesTags}
use Rattle.ags_scale.specs.Tagging.{IsCaseTagged}
use Rattle.ags_scale.specs.declared.answers.TagFault.{TagFault}

-- what comes of a case of the row with a number, where it is accepted
abbrev pub IsAsked : Machine → List (Option ℕ) → Stated → Scaling → ℕ → Row Value → RowCase → Result ℕ TagFault → Type 0
IsAsked machine image cert scales number row c outcome =
    IsCaseAccepted value_meaning (certificate_of cert) (case_in machine image cert.limits row c)
    → IsCaseTagged value_meaning (certificate_of cert) scales number (case_in machine image cert.limits row c) outcome

-- the scales, and the tags of a post
pub record Taking : Type 0 where
  pub scales : Scaling
  pub tags : RowTags

-- the row with a number takes the tags
abbrev pub is_taking : Taking → ℕ → Type 0
is_taking t number = TakesTags (tags_of_row t.scales number) t.tags
