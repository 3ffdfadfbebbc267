-- What edits leave. Behind the law are
--     machine_stays, refused_stays
-- and `one_stays` serves what is told of edits.
use Rattle.std.proofs.Common.{◌≡◌, ap, ◌∙◌, List, [], ◌∷◌}
use Rattle.std.specs.Prelude.{Result, Ok, Err}
use Rattle.ags_certtype.specs.declared.edit_errors.EditError.{EditError}
use Rattle.ags_certtype.specs.declared.edit_errors.EditError.TheVariants.{NoRow, OutsideGlobal, BelowUse, FullLocation}
use Rattle.ags_check.specs.Judging.{Judging}
use Rattle.ags_edits.specs.declared.edits.Edit.{Edit}
use Rattle.ags_edits.specs.declared.edits.Edit.TheVariants as edit
use Rattle.ags_recheck.specs.Edited.{IsEdited, AreEdited, ChangesCert}

pub one_stays : (old new : Judging) (e : Edit) (outcome : Result Unit EditError) → IsEdited old e outcome new → new.machine ≡ old.machine
one_stays old new (edit.Word location word) (Ok done) is = ap (λ (j : Judging). j.machine) is
one_stays old new (edit.Word location word) (Err told) is = absurd is
one_stays old new (edit.Limit cell) outcome is = ap (λ (j : Judging). j.machine) is.1
one_stays old new (edit.Row number row) outcome is = ap (λ (j : Judging). j.machine) is.1

pub machine_stays : (old new : Judging) (edits : List Edit) (outcomes : List (Result Unit EditError)) → AreEdited old edits outcomes new
    → new.machine ≡ old.machine
machine_stays old new [] [] is = ap (λ (j : Judging). j.machine) is
machine_stays old new [] (outcome ∷ outcomes) is = absurd is
machine_stays old new (e ∷ edits) [] is = absurd is
machine_stays old new (e ∷ edits) (outcome ∷ outcomes) is =
    machine_stays is.0 new edits outcomes is.2 ∙ one_stays old is.0 e outcome is.1

same_cert : (old new : Judging) → ChangesCert old new → new.cert ≡ old.cert → new ≡ old
same_cert old new is same = is ∙ ap (λ c. record old { cert = c }) same

pub refused_stays : (old new : Judging) (e : Edit) (error : EditError) → IsEdited old e (Err error) new → new ≡ old
refused_stays old new (edit.Word location word) error is = absurd is
refused_stays old new (edit.Limit cell) BelowUse is = same_cert old new is.1 is.0.1
refused_stays old new (edit.Limit cell) NoRow is = absurd is.0
refused_stays old new (edit.Limit cell) (OutsideGlobal address) is = absurd is.0
refused_stays old new (edit.Limit cell) FullLocation is = absurd is.0
refused_stays old new (edit.Row number row) NoRow is = same_cert old new is.1 is.0.1
refused_stays old new (edit.Row number row) (OutsideGlobal address) is = same_cert old new is.1 is.0.2
refused_stays old new (edit.Row number row) BelowUse is = absurd is.0
refused_stays old new (edit.Row number row) FullLocation is = same_cert old new is.1 is.0.3
