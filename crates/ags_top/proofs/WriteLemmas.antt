-- What is said of a text of a source.
use Rattle.std.proofs.Common.{◌≡◌, ℕ, List, Option, refl}
use Rattle.ags_command.specs.declared.source_texts.SourceText.{SourceText}
use Rattle.ags_command.specs.declared.source_texts.SourceText.TheVariants.{Tape}
use Rattle.ags_outside.specs.Sink.{appended, WroteFront}
use Rattle.ags_plan.specs.Plan.{WorkAt}
use Rattle.ags_plan.specs.Saying.{SaidWhole, SaidInPart}
use Rattle.ags_image.specs.Tape.{tape_text}
use Rattle.ags_files.specs.declared.sources.SourceFile.{SourceFile}
use Rattle.ags_program.specs.declared.status.Status.TheVariants.{Done}
use Rattle.ags_program.specs.Program.{program}
use Rattle.ags_program.specs.Views.{IsReadSource, assembly_of}
use Rattle.ags_program.specs.Work.{WriteText, IsTextOf}

module _ (what : SourceText) (source : SourceFile) (text : List ℕ) (old new : Option (List ℕ)) (is : IsTextOf what (assembly_of source) text) where
  -- all of it was sent
  pub text_said : new ≡ appended old text → SaidWhole program (WorkAt (WriteText what (assembly_of source))) old new Done
  text_said sent = record { text = text; comes = (is, refl); sent = sent }

  -- a front of it was
  pub text_said_in_part : WroteFront old new text → SaidInPart program (WorkAt (WriteText what (assembly_of source))) old new
  text_said_in_part prefix = record { text = text; status = Done; comes = (is, refl); prefix = prefix }

pub is_tape : (source : SourceFile) → IsReadSource source → IsTextOf Tape (assembly_of source) (tape_text source.made.image)
is_tape source (order_codes, is) = (source.made.image, is.image, refl)
