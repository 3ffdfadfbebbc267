-- How it is printed what comes of an edit.
use Rattle.std.specs.Prelude.{ℕ, List, ◌++◌, codes}
use Rattle.ags_verdict.specs.VerdictText.{verdict_text}
use Rattle.ags_certtype.specs.declared.edit_errors.EditError.{EditError}
use Rattle.ags_certtype.specs.declared.edit_errors.EditError.TheVariants.{NoRow, OutsideGlobal, BelowUse, FullLocation}
use Rattle.ags_recheck.specs.declared.telling.Told.{Told}
use Rattle.ags_recheck.specs.declared.telling.Told.TheVariants.{Made, NotMade}

-- a refusal's number and its name
abbrev pub refused_text : EditError → List ℕ
refused_text NoRow = codes "1 NoRow"
refused_text (OutsideGlobal address) = codes "2 OutsideGlobal"
refused_text BelowUse = codes "3 BelowUse"
refused_text FullLocation = codes "4 FullLocation"

-- the verdict of what stands after the edit, or why it isn't made
abbrev pub told_text : Told → List ℕ
told_text (Made verdict) = verdict_text verdict
told_text (NotMade error) = codes "NOTMADE " ++ refused_text error
