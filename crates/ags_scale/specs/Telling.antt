-- The answer that tells what fails of a case.
use Rattle.std.specs.Prelude.{ℕ}
use Rattle.ags_scale.specs.declared.answers.TagFault.{TagFault}
use Rattle.ags_scale.specs.declared.answers.TagFault.TheVariants.{Mixes, Loses}
use Rattle.ags_scale.specs.declared.answers.Scaled.{Scaled}
use Rattle.ags_scale.specs.declared.answers.Scaled.TheVariants.{Mixed, NotHeld}

-- the answer that tells what fails of a case of the row with a number
abbrev pub answer_of : ℕ → TagFault → Scaled
answer_of row (Mixes word x v two) = Mixed row word x v two.left two.right
answer_of row (Loses word x v next) = NotHeld row word x v next
