-- What edits make of a program and its certificate.
use Rattle.std.specs.Prelude.{◌≡◌, ◌<◌, List, [], ◌∷◌, Result, Ok, Err}
use Rattle.ags_image.specs.Image.{with_word}
use Rattle.ags_certtype.specs.Edit.{ReplacesRow, ReplacesLimit}
use Rattle.ags_certtype.specs.declared.edit_errors.EditError.{EditError}
use Rattle.ags_check.specs.Judging.{Judging}
use Rattle.ags_edits.specs.declared.edits.Edit.{Edit}
use Rattle.ags_edits.specs.declared.edits.Edit.TheVariants as edit

-- what an edit speaks of is there: a location of the memory, or an erasable cell
abbrev pub IsOfMemory : Edit → Type 0
IsOfMemory (edit.Word location word) = location < 4096
IsOfMemory (edit.Limit cell) = cell.address < 2048
IsOfMemory (edit.Row number row) = Unit

-- the certificate alone is another one
abbrev pub ChangesCert : (old new : Judging) → Type 0
ChangesCert old new = new ≡ record old { cert = new.cert }

-- What comes of an edit: a location's word is replaced, which is never refused; or a row or a limit of the certificate is, where the
-- certificate takes it. The machine and all else stays, and where the edit is refused nothing changes.
abbrev pub IsEdited : (old : Judging) → Edit → Result Unit EditError → (new : Judging) → Type 0
IsEdited old (edit.Word location word) (Ok done) new = new ≡ record old { image = with_word old.image location word }
IsEdited old (edit.Word location word) (Err told) new = ⊥
IsEdited old (edit.Limit cell) outcome new = ReplacesLimit old.cert cell outcome new.cert × ChangesCert old new
IsEdited old (edit.Row number row) outcome new = ReplacesRow old.cert number row outcome new.cert × ChangesCert old new

-- What comes of edits, one after the other.
abbrev pub AreEdited : (old : Judging) → List Edit → List (Result Unit EditError) → (new : Judging) → Type 0
AreEdited old [] [] new = new ≡ old
AreEdited old (edit ∷ edits) (outcome ∷ outcomes) new =
    (between : Judging) × IsEdited old edit outcome between × AreEdited between edits outcomes new
AreEdited old edits outcomes new = ⊥
