-- What is told of edits: of each that it is made, with the verdict of what stands then, or why it isn't.
use Rattle.std.specs.Prelude.{◌≡◌, List, [], ◌∷◌, Ok, Err}
use Rattle.ags_domain.specs.Value.{value_meaning}
use Rattle.ags_verdict.specs.Verdict.{IsVerdict}
use Rattle.ags_certtype.specs.Cert.{certificate_of}
use Rattle.ags_check.specs.Judging.{Judging}
use Rattle.ags_edits.specs.declared.edits.Edit.{Edit}
use Rattle.ags_recheck.specs.Edited.{IsEdited}
use Rattle.ags_recheck.specs.declared.telling.Told.{Told}
use Rattle.ags_recheck.specs.declared.telling.Told.TheVariants.{Made, NotMade}

-- The edit is made, and the verdict is that of the edited certificate for the edited image; or it is refused for this, and what stands is
-- as it was.
abbrev pub IsTold : (old : Judging) → Edit → Told → (new : Judging) → Type 0
IsTold old edit (Made verdict) new = IsEdited old edit (Ok tt) new × IsVerdict value_meaning new.machine new.image (certificate_of new.cert) verdict
IsTold old edit (NotMade error) new = IsEdited old edit (Err error) new

-- what is told of edits, of each on what those before it made
abbrev pub AreTold : (old : Judging) → List Edit → List Told → (new : Judging) → Type 0
AreTold old [] [] new = new ≡ old
AreTold old (edit ∷ edits) (told ∷ more) new = (between : Judging) × IsTold old edit told between × AreTold between edits more new
AreTold old edits told new = ⊥
