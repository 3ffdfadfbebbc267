-- The answer that tells what fails first.
use Rattle.std.proofs.Common.{◌≡◌, ℕ, ◌+◌, ◌*◌, ◌≤◌, List, arith}
use Rattle.std.specs.Prelude.{Option}
use Rattle.ags_domain.specs.declared.values.Value.{Value}
use Rattle.ags_verdict.specs.declared.verdicts.Refusal.{Refusal}
use Rattle.ags_ports.specs.declared.machines.Machine.{Machine}
use Rattle.ags_safe.specs.Certificate.{Certificate}
use Rattle.ags_tags.specs.Tag.{Scaling}
use Rattle.ags_scale.specs.Scaled.{FailsFirst, IsScaled}
use Rattle.ags_scale.specs.Telling.{answer_of}
use Rattle.ags_scale.specs.declared.answers.Scaled.TheVariants.{Agree, StartMixed, Unsafe}
use Rattle.ags_scale.specs.declared.answers.TagFault.{TagFault}
use Rattle.ags_scale.specs.declared.answers.TagFault.TheVariants.{Mixes, Loses}

pub told_scaled : (machine : Machine) (image : List (Option ℕ)) (cert : Certificate Value) (scales : Scaling) (row : ℕ) (fault : TagFault)
    → FailsFirst machine image cert scales row fault → IsScaled machine image cert scales (answer_of row fault)
told_scaled machine image cert scales row (Mixes word x v two) fails = fails
told_scaled machine image cert scales row (Loses word x v next) fails = fails

-- what fails of a case is told, and not that the scales agree
pub told_is_no_agreement : (row : ℕ) (fault : TagFault) (rows cases : ℕ) → answer_of row fault ≡ Agree rows cases → ⊥
told_is_no_agreement row (Mixes word x v two) rows cases is = absurd cc
told_is_no_agreement row (Loses word x v next) rows cases is = absurd cc

pub mixed_is_no_agreement : (rows cases : ℕ) → StartMixed ≡ Agree rows cases → ⊥
mixed_is_no_agreement rows cases is = cc

pub unsafe_is_no_agreement : (refusal : Refusal Value) (rows cases : ℕ) → Unsafe refusal ≡ Agree rows cases → ⊥
unsafe_is_no_agreement refusal rows cases is = cc

-- the verdict takes a step for each case at most, and so do the tags
pub steps_twice : (old between new cases : ℕ) → between ≤ old + cases → new ≤ between + cases → new ≤ old + 2 * cases
steps_twice old between new cases first second = omega arith

pub steps_once : (old new cases : ℕ) → new ≤ old + cases → new ≤ old + 2 * cases
steps_once old new cases once = omega arith
