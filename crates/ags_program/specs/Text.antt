-- The lines that the program prints of its own.
use Rattle.std.specs.Prelude.{ℕ, ◌+◌, List, [], ◌∷◌, ◌++◌, Option, Some, None, codes}
use Rattle.std.specs.Fmt.{decimal}
use Rattle.ags_text.specs.Numeral.{octal4_text, octal6_text}
use Rattle.ags_certtext.specs.declared.cert_error.CertError.{CertError}
use Rattle.ags_cert.specs.FaultText as certificate
use Rattle.ags_compare.specs.declared.comparing.Compared.{Compared}
use Rattle.ags_compare.specs.declared.comparing.Compared.TheVariants.{Equal, Differs}
use Rattle.ags_listing.specs.declared.list_error.ListError.{ListError}
use Rattle.ags_listing.specs.ErrorText as listing
use Rattle.ags_places.specs.declared.source_error.SourceError.{SourceError}
use Rattle.ags_places.specs.FaultText.{fault_text}
use Rattle.ags_machfile.specs.declared.mach_error.MachError.{MachError}
use Rattle.ags_machfile.specs.FaultText as machine
use Rattle.ags_budget.specs.TimedText.{timed_text}
use Rattle.ags_budget.specs.declared.answers.Timed.{Timed}
use Rattle.ags_budget.specs.declared.answers.Timed.TheVariants.{Unsafe}
use Rattle.ags_scale.specs.ScaledText.{scaled_text}
use Rattle.ags_scale.specs.declared.answers.Scaled.{Scaled}
use Rattle.ags_scale.specs.declared.answers.Scaled.TheVariants as scaled
use Rattle.ags_edits.specs.declared.edits_errors.EditsError.{EditsError}
use Rattle.ags_edits.specs.FaultText as edits
use Rattle.ags_recheck.specs.ToldText.{told_text}
use Rattle.ags_recheck.specs.declared.telling.Told.{Told}
use Rattle.ags_tags.specs.declared.scale_errors.ScaleError.{ScaleError}
use Rattle.ags_tags.specs.FaultText as scales
use Rattle.ags_times.specs.declared.budget_errors.BudgetError.{BudgetError}
use Rattle.ags_times.specs.FaultText as times
use Rattle.ags_verdict.specs.VerdictText.{verdict_text}
use Rattle.ags_verdict.specs.declared.verdicts.Verdict.{Verdict}
use Rattle.ags_domain.specs.declared.values.Value.{Value}
use Rattle.ags_script.specs.declared.script_errors.ScriptError.{ScriptError}
use Rattle.ags_script.specs.FaultText.{error_text}
use Rattle.ags_play.specs.OutsideText.{met_text}
use Rattle.ags_play.specs.Played.{Met, Nothing}

-- the arguments are none of the forms
abbrev pub words_line : List ℕ
words_line = codes "WORDS\n"

-- the machine file fails that test
abbrev pub machine_fault_line : MachError → List ℕ
machine_fault_line error = machine.fault_text error ++ codes "\n"

-- the certificate has that fault
abbrev pub certificate_fault_line : CertError → List ℕ
certificate_fault_line error = certificate.error_text error ++ codes "\n"

-- the listing has that fault
abbrev pub listing_fault_line : ListError → List ℕ
listing_fault_line error = listing.error_text error ++ codes "\n"

-- the source has that fault
abbrev pub fault_line : SourceError → List ℕ
fault_line error = fault_text error ++ codes "\n"

-- the script has that fault
abbrev pub script_fault_line : ScriptError → List ℕ
script_fault_line error = error_text error ++ codes "\n"

-- the text of times has that fault
abbrev pub times_fault_line : BudgetError → List ℕ
times_fault_line error = times.error_text error ++ codes "\n"

-- the text of scales has that fault
abbrev pub scales_fault_line : ScaleError → List ℕ
scales_fault_line error = scales.error_text error ++ codes "\n"

-- the text of edits has that fault
abbrev pub edits_fault_line : EditsError → List ℕ
edits_fault_line error = edits.error_text error ++ codes "\n"

-- a word where there is one
abbrev pub word_column : Option ℕ → List ℕ
word_column None = codes "------"
word_column (Some word) = octal6_text word

-- two images are one, or they differ at that location, where they have these words
unfoldable pub compared_line : Compared → List ℕ
compared_line Equal = codes "EQUAL\n"
compared_line (Differs location left right) =
    codes "DIFFERS " ++ octal4_text location ++ codes " " ++ word_column left ++ codes " " ++ word_column right ++ codes "\n"

-- the verdict of a certificate
abbrev pub verdict_line : Verdict Value → List ℕ
verdict_line verdict = verdict_text verdict ++ codes "\n"

-- the word that begins the line of a certificate that is certified
abbrev pub certified_word : List ℕ
certified_word = codes "CERTIFIED"

-- the workload of that size is certified: it has so many cards and words, and its certificate so many rows and cases
abbrev pub workload_line : (size cards words rows cases : ℕ) → List ℕ
workload_line size cards words rows cases =
    codes "WORKLOAD " ++ decimal size ++ codes " CARDS " ++ decimal cards ++ codes " WORDS " ++ decimal words ++ codes " ROWS " ++ decimal rows
    ++ codes " CASES " ++ decimal cases ++ codes " CERTIFIED\n"

-- what a play met, where it met something
abbrev pub met_line : Met → List ℕ
met_line Nothing = []
met_line met = met_text met ++ codes "\n"

-- what comes of bounds on order time, and nothing where the certificate isn't certified, which its verdict tells
abbrev pub timed_line : Timed → List ℕ
timed_line (Unsafe told) = []
timed_line timed = timed_text timed ++ codes "\n"

-- what comes of scales, and nothing where the certificate isn't certified, which its verdict tells
abbrev pub scaled_line : Scaled → List ℕ
scaled_line (scaled.Unsafe told) = []
scaled_line answer = scaled_text answer ++ codes "\n"

-- what comes of an edit, which is the one of a number, from 1
abbrev pub edit_line : (number : ℕ) → Told → List ℕ
edit_line number told = codes "EDIT " ++ decimal number ++ codes " " ++ told_text told ++ codes "\n"

-- what comes of edits, a line for each, where the first is the one of a number
abbrev pub edit_lines : (number : ℕ) → List Told → List ℕ
edit_lines number [] = []
edit_lines number (told ∷ more) = edit_line number told ++ edit_lines (number + 1) more
