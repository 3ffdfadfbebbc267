-- What is said of a comparison.
use Rattle.std.proofs.Common.{◌≡◌, ℕ, List, Option, refl}
use Rattle.ags_compare.specs.declared.comparing.Compared.{Compared}
use Rattle.ags_compare.specs.Comparison.{IsComparison}
use Rattle.ags_asm.specs.Source.{card_words}
use Rattle.ags_asm.specs.declared.assembling.Assembled.{Assembled}
use Rattle.ags_outside.specs.Sink.{appended, WroteFront}
use Rattle.ags_plan.specs.Plan.{WorkAt}
use Rattle.ags_plan.specs.Saying.{SaidWhole, SaidInPart}
use Rattle.ags_program.specs.Program.{program}
use Rattle.ags_program.specs.Text.{compared_line}
use Rattle.ags_program.specs.Views.{HasImage}
use Rattle.ags_program.specs.Work.{CompareImages, IsComparisonOf, compared_status}

module _ (made : Assembled) (listed : List (Option ℕ)) (old new : Option (List ℕ)) (image : HasImage made) (compared : Compared) (is : IsComparison made.image listed compared) where
  -- how the images compare
  comparison : IsComparisonOf (card_words made) listed (compared_line compared) (compared_status compared)
  comparison = record { image = made.image; image_is = image; compared = compared; comparison = is; text_is = refl; status_is = refl }

  -- it was said
  pub comparison_said : new ≡ appended old (compared_line compared)
      → SaidWhole program (WorkAt (CompareImages (card_words made) listed)) old new (compared_status compared)
  comparison_said sent = record { text = compared_line compared; comes = comparison; sent = sent }

  -- a front of its line was
  pub comparison_said_in_part : WroteFront old new (compared_line compared) → SaidInPart program (WorkAt (CompareImages (card_words made) listed)) old new
  comparison_said_in_part prefix = record { text = compared_line compared; status = compared_status compared; comes = comparison; prefix = prefix }
