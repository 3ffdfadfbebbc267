-- What is written of edits after the verdict of the certificate that they are made of: a line for each.
use Rattle.std.specs.Prelude.{◌≡◌, ℕ, List, Option, Some, None, Result, Ok, Err}
use Rattle.ags_outside.specs.declared.sending.SendError.{SendError}
use Rattle.ags_outside.specs.Sink.{appended, WroteFront}
use Rattle.ags_check.specs.Judging.{Judging}
use Rattle.ags_edits.specs.declared.edits.Edit.{Edit}
use Rattle.ags_recheck.specs.Told.{AreTold}
use Rattle.ags_recheck.specs.declared.telling.Told.{Told}
use Rattle.ags_recheck.specs.declared.telling.Told.TheVariants.{Made, NotMade}
use Rattle.ags_program.specs.declared.status.Status.{Status}
use Rattle.ags_program.specs.declared.status.Status.TheVariants.{No}
use Rattle.ags_program.specs.declared.works.ReadPair.{ReadPair}
use Rattle.ags_program.specs.Text.{edit_lines}
use Rattle.ags_program.specs.Work.{edits_status, verdict_status}

-- what is judged of a pair
abbrev pub judging_of : ReadPair → Judging
judging_of pair = record { machine = pair.machine; image = pair.source.made.image; cert = pair.cert }

-- The sink took the lines of all edits, and this is their status.
pub record TellsWhole (start : Judging) (edits : List Edit) (before : Status) (old new : Option (List ℕ)) (status : Status) : Type 0 where
  pub told : List Told
  pub after : Judging
  pub are_told : AreTold start edits told after
  pub sent : new ≡ appended old (edit_lines 1 told)
  pub status_is : status ≡ edits_status before told

-- The sink took a prefix of them.
pub record TellsInPart (start : Judging) (edits : List Edit) (old new : Option (List ℕ)) : Type 0 where
  pub told : List Told
  pub after : Judging
  pub are_told : AreTold start edits told after
  pub front : WroteFront old new (edit_lines 1 told)

-- all was written of the edits; or the output or memory stopped it, and a prefix was
abbrev pub Tells : (start : Judging) → List Edit → (before : Status) → (old new : Option (List ℕ)) → Result Status SendError → Type 0
Tells start edits before old new (Ok status) = TellsWhole start edits before old new status
Tells start edits before old new (Err error) = TellsInPart start edits old new

-- the status after a further edit, and nothing where one wasn't made
abbrev pub status_with : Option Status → Told → Option Status
status_with (Some status) (Made verdict) = Some (verdict_status verdict)
status_with (Some status) (NotMade error) = None
status_with None told = None

-- the status in the end
abbrev pub status_in_the_end : Option Status → Status
status_in_the_end (Some status) = status
status_in_the_end None = No

-- the status with what is told of further edits
abbrev pub status_from : Option Status → List Told → Status
status_from (Some status) more = edits_status status more
status_from None more = No
