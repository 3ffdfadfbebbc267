-- The answer to scales.
use Rattle.std.specs.Prelude.{ℕ, List, length, Option, Result, Ok, Err}
use Rattle.ags_domain.specs.Domain.{Meaning}
use Rattle.ags_domain.specs.Value.{value_meaning}
use Rattle.ags_domain.specs.declared.values.Value.{Value}
use Rattle.ags_ports.specs.declared.machines.Machine.{Machine}
use Rattle.ags_safe.specs.Certificate.{Certificate}
use Rattle.ags_verdict.specs.RowCase.{case_in}
use Rattle.ags_verdict.specs.Verdict.{IsVerdict}
use Rattle.ags_verdict.specs.declared.verdicts.Verdict.TheVariants.{Certified, Refused}
use Rattle.ags_verdict.specs.Walk.{AreWalked}
use Rattle.ags_verdict.specs.declared.walks.AtRow.{AtRow}
use Rattle.ags_tags.specs.Tag.{Scaling}
use Rattle.ags_scale.specs.Tagging.{IsCaseTagged, IsStartTagged}
use Rattle.ags_scale.specs.declared.answers.TagFault.{TagFault}
use Rattle.ags_scale.specs.declared.answers.TagFault.TheVariants.{Mixes, Loses}
use Rattle.ags_scale.specs.declared.answers.Scaled.{Scaled}
use Rattle.ags_scale.specs.declared.answers.Scaled.TheVariants.{Agree, Unsafe, StartMixed, Mixed, NotHeld}

-- what comes of the rows where each case is asked for its tags
abbrev pub AreRowsTagged : {D : Type 0} → Meaning D → Machine → List (Option ℕ) → Certificate D → Scaling → Result ℕ (AtRow TagFault) → Type 0
AreRowsTagged meaning machine image cert scales outcome = AreWalked meaning image cert.limits (Ok 0)
    (λ number row c o. IsCaseTagged meaning cert scales number (case_in machine image cert.limits row c) o) cert.rows outcome

module _ (machine : Machine) (image : List (Option ℕ)) (cert : Certificate Value) (scales : Scaling) where
  -- the certificate is certified
  abbrev pub IsCertified : (rows cases : ℕ) → Type 0
  IsCertified rows cases = IsVerdict value_meaning machine image cert (Certified rows cases)

  -- so it is, some row holds the start with raw tags, and this is what fails first of the rows
  pub record FailsFirst (row : ℕ) (fault : TagFault) : Type 0 where
    pub cases : ℕ
    pub certified : IsCertified (length cert.rows) cases
    pub start : IsStartTagged value_meaning cert scales image
    pub rows : AreRowsTagged value_meaning machine image cert scales (Err (record { row = row; fault = fault }))

  -- The scales are accepted; or the certificate is refused; or it is certified, and no row holds the start with raw tags; or some does,
  -- and a case fails, the first in the order of the verdict.
  abbrev pub IsScaled : Scaled → Type 0
  IsScaled (Agree rows cases) = IsCertified rows cases × IsStartTagged value_meaning cert scales image
      × (tagged : ℕ) × AreRowsTagged value_meaning machine image cert scales (Ok tagged)
  IsScaled (Unsafe told) = IsVerdict value_meaning machine image cert (Refused told)
  IsScaled StartMixed = (cases : ℕ) × IsCertified (length cert.rows) cases × (¬ IsStartTagged value_meaning cert scales image)
  IsScaled (Mixed row word x v left right) = FailsFirst row (Mixes word x v (record { left = left; right = right }))
  IsScaled (NotHeld row word x v next) = FailsFirst row (Loses word x v next)
