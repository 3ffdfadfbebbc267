-- The works of the commands, and what each makes of what the files hold.
use Rattle.std.specs.Prelude.{◌≡◌, ℕ, List, [], ◌∷◌, ◌++◌, length, Option, Some, None}
use Rattle.ags_asm.specs.Source.{CardWords, placed_words}
use Rattle.ags_cert.specs.Cert.{Stated, certificate_of}
use Rattle.ags_command.specs.declared.source_texts.SourceText.{SourceText}
use Rattle.ags_command.specs.declared.source_texts.SourceText.TheVariants.{Listing, Tape, CrossReference}
use Rattle.ags_compare.specs.declared.comparing.Compared.{Compared}
use Rattle.ags_compare.specs.declared.comparing.Compared.TheVariants.{Equal, Differs}
use Rattle.ags_compare.specs.Comparison.{IsComparison}
use Rattle.ags_image.specs.Image.{IsImageOf}
use Rattle.ags_ports.specs.declared.events.Event.{Event}
use Rattle.ags_ports.specs.declared.machines.Machine.{Machine}
use Rattle.ags_ports.specs.Run.{Moment, Run}
use Rattle.ags_listing.specs.Listing.{listing}
use Rattle.ags_places.specs.Deck.{cards}
use Rattle.ags_places.specs.Place.{Fits}
use Rattle.ags_symbol.specs.Symbol.{Entry}
use Rattle.ags_domain.specs.Value.{value_meaning}
use Rattle.ags_domain.specs.declared.values.Value.{Value}
use Rattle.ags_verdict.specs.Verdict.{IsVerdict}
use Rattle.ags_verdict.specs.declared.verdicts.Verdict.{Verdict}
use Rattle.ags_verdict.specs.declared.verdicts.Verdict.TheVariants.{Certified, Refused}
use Rattle.ags_budget.specs.Timed.{IsTimed}
use Rattle.ags_budget.specs.declared.answers.Timed.{Timed}
use Rattle.ags_budget.specs.declared.answers.Timed.TheVariants.{Within}
use Rattle.ags_scale.specs.Scaled.{IsScaled}
use Rattle.ags_scale.specs.declared.answers.Scaled.{Scaled}
use Rattle.ags_scale.specs.declared.answers.Scaled.TheVariants.{Agree}
use Rattle.ags_check.specs.Judging.{Judging}
use Rattle.ags_edits.specs.declared.edits.Edit.{Edit}
use Rattle.ags_recheck.specs.Told.{AreTold}
use Rattle.ags_recheck.specs.declared.telling.Told.{Told}
use Rattle.ags_recheck.specs.declared.telling.Told.TheVariants.{Made, NotMade}
use Rattle.ags_tags.specs.Tag.{Scaling}
use Rattle.ags_image.specs.Tape.{tape_text}
use Rattle.ags_xref.specs.Xref.{xref_text}
use Rattle.ags_script.specs.declared.commands.Command.{Command}
use Rattle.ags_play.specs.Bench.{begun_state}
use Rattle.ags_play.specs.Played.{Met, Nothing, IsPlayOf}
use Rattle.ags_program.specs.declared.status.Status.{Status}
use Rattle.ags_program.specs.declared.status.Status.TheVariants.{Done, No, BadWords}
use Rattle.ags_program.specs.Files.{Assembly, Pair}
use Rattle.ags_program.specs.Text.{compared_line, edit_lines, met_line, scaled_line, timed_line, verdict_line, words_line, workload_line}

-- What stands with the verdict of a certificate for a source's words: the listing of the source before it; or after it, where it
-- certifies, the play of a script with the certificate as its guard, or what comes of the bounds of its rows, or of scales; or after
-- it, whatever it is, what comes of edits; or nothing, and where it certifies the counts of the workload of a size stand in its place.
pub data Sequel : Type 0 where
  ListingBefore : Sequel
  PlayBehind : (commands : List Command) → Sequel
  CountsInstead : (size : ℕ) → Sequel
  BudgetBehind : (bounds : List ℕ) → Sequel
  ScalesBehind : (scales : Scaling) → Sequel
  EditsBehind : (edits : List Edit) → Sequel

-- what is done once the files are loaded
pub data Work : Type 0 where
  -- the arguments are none of the forms: that is said
  NoForm : Work
  -- this text of a source
  WriteText : (text : SourceText) (assembly : Assembly) → Work
  -- the comparison of the words of a source's cards with the image of a listing
  CompareImages : (defined : CardWords) (listed : List (Option ℕ)) → Work
  -- the verdict of a certificate for a source's words, and what stands with it
  JudgePair : (pair : Pair) (sequel : Sequel) → Work
  -- the play of a script's commands on a machine that begins with the words of a source's cards
  PlayScript : (machine : Machine) (defined : CardWords) (commands : List Command) → Work

-- the text is this one of the source: its listing, the tape of the image of its words, or the cross reference of its symbols
abbrev pub IsTextOf : SourceText → Assembly → (text : List ℕ) → Type 0
IsTextOf Listing assembly text = text ≡ listing assembly.bytes assembly.defined
IsTextOf Tape assembly text = (image : List (Option ℕ)) × IsImageOf (placed_words assembly.defined) image × (text ≡ tape_text image)
IsTextOf CrossReference assembly text = (symbols : List Entry) × Fits symbols (cards assembly.bytes) × (text ≡ xref_text assembly.bytes symbols)

-- the status of a comparison
abbrev pub compared_status : Compared → Status
compared_status Equal = Done
compared_status (Differs location left right) = No

-- The text and the status say how the image of these words compares with that of a listing.
pub record IsComparisonOf (defined : CardWords) (listed : List (Option ℕ)) (text : List ℕ) (status : Status) : Type 0 where
  pub image : List (Option ℕ)
  pub image_is : IsImageOf (placed_words defined) image
  pub compared : Compared
  pub comparison : IsComparison image listed compared
  pub text_is : text ≡ compared_line compared
  pub status_is : status ≡ compared_status compared

-- the status of a verdict
abbrev pub verdict_status : Verdict Value → Status
verdict_status (Certified rows cases) = Done
verdict_status (Refused refusal) = No

-- The text is the play of the commands on the machine, which begins with the image of these words in its cells, with its first
-- order at 4000 octal, and with what the commands set: from that state the commands make one list of events, which is one run, and
-- show that text along it.
pub record IsShownBy (machine : Machine) (defined : CardWords) (commands : List Command) (text : List ℕ) : Type 0 where
  pub image : List (Option ℕ)
  pub image_is : IsImageOf (placed_words defined) image
  pub events : List Event
  pub moments : List Moment
  pub run : Run machine (begun_state machine image None commands) events moments
  pub plays : IsPlayOf machine image None commands events text Nothing

-- the status of a play under a guard, by what it met
abbrev pub met_status : Met → Status
met_status Nothing = Done
met_status met = No

-- The text is the line of the verdict, after it what the commands' play shows with the certificate as its guard, and after that,
-- where the play met a start or a word that the certificate doesn't declare, the line that says so; and this is the status of what
-- it met.
pub record IsGuardedPlay (machine : Machine) (image : List (Option ℕ)) (cert : Stated) (commands : List Command) (verdict : Verdict Value) (text : List ℕ) (status : Status) : Type 0 where
  pub events : List Event
  pub shown : List ℕ
  pub met : Met
  pub plays : IsPlayOf machine image (Some (certificate_of cert)) commands events shown met
  pub text_is : text ≡ verdict_line verdict ++ shown ++ met_line met
  pub status_is : status ≡ met_status met

-- where the certificate is certified, the play; where it is refused, the line of its verdict alone
abbrev pub IsPlayedBy : Machine → (image : List (Option ℕ)) → Stated → List Command → Verdict Value → (text : List ℕ) → Status → Type 0
IsPlayedBy machine image cert commands (Certified rows cases) text status = IsGuardedPlay machine image cert commands (Certified rows cases) text status
IsPlayedBy machine image cert commands (Refused refusal) text status = (text ≡ verdict_line (Refused refusal)) × (status ≡ No)

-- the status of what comes of bounds on order time
abbrev pub timed_status : Timed → Status
timed_status (Within rows cases greatest) = Done
timed_status timed = No

-- The text is the line of the verdict, and after it the line of what comes of these bounds of the rows for the image, where the
-- certificate is certified; and this is the status of that.
pub record IsBudgetJudged (machine : Machine) (image : List (Option ℕ)) (cert : Stated) (bounds : List ℕ) (verdict : Verdict Value) (text : List ℕ) (status : Status) : Type 0 where
  pub timed : Timed
  pub is_timed : IsTimed machine image (certificate_of cert) bounds timed
  pub text_is : text ≡ verdict_line verdict ++ timed_line timed
  pub status_is : status ≡ timed_status timed

-- the status of what comes of scales
abbrev pub scaled_status : Scaled → Status
scaled_status (Agree rows cases) = Done
scaled_status answer = No

-- The text is the line of the verdict, and after it the line of what comes of these scales for the image, where the certificate is
-- certified; and this is the status of that.
pub record IsScalesJudged (machine : Machine) (image : List (Option ℕ)) (cert : Stated) (scales : Scaling) (verdict : Verdict Value) (text : List ℕ) (status : Status) : Type 0 where
  pub answer : Scaled
  pub is_scaled : IsScaled machine image (certificate_of cert) scales answer
  pub text_is : text ≡ verdict_line verdict ++ scaled_line answer
  pub status_is : status ≡ scaled_status answer

-- The status of edits, by that of the verdict before them: where each is made that of the last verdict, and No where one isn't.
abbrev pub edits_status : Status → List Told → Status
edits_status status [] = status
edits_status status (Made verdict ∷ more) = edits_status (verdict_status verdict) more
edits_status status (NotMade error ∷ more) = No

-- The text is the line of the verdict, and after it a line for each of these edits, made one after the other of the image and the
-- certificate, also where that is refused; and this is the status of all.
pub record AreEditsTold (machine : Machine) (image : List (Option ℕ)) (cert : Stated) (edits : List Edit) (verdict : Verdict Value) (text : List ℕ) (status : Status) : Type 0 where
  pub told : List Told
  pub after : Judging
  pub are_told : AreTold (record { machine = machine; image = image; cert = cert }) edits told after
  pub text_is : text ≡ verdict_line verdict ++ edit_lines 1 told
  pub status_is : status ≡ edits_status (verdict_status verdict) told

-- what is said of a workload's certificate: where it is certified, the counts of cards, words, rows and cases; where it is refused, the
-- line of its verdict
abbrev pub counts_line : (size : ℕ) → CardWords → Verdict Value → List ℕ
counts_line size defined (Certified rows cases) = workload_line size (length defined) (length (placed_words defined)) rows cases
counts_line size defined (Refused refusal) = verdict_line (Refused refusal)

-- the text and the status of a verdict, by what stands with it
abbrev pub ComesWith : Sequel → Pair → (image : List (Option ℕ)) → Verdict Value → (text : List ℕ) → Status → Type 0
ComesWith ListingBefore pair image verdict text status =
    (text ≡ listing pair.assembly.bytes pair.assembly.defined ++ verdict_line verdict) × (status ≡ verdict_status verdict)
ComesWith (PlayBehind commands) pair image verdict text status = IsPlayedBy pair.machine image pair.cert commands verdict text status
ComesWith (CountsInstead size) pair image verdict text status = (text ≡ counts_line size pair.assembly.defined verdict) × (status ≡ verdict_status verdict)
ComesWith (BudgetBehind bounds) pair image verdict text status = IsBudgetJudged pair.machine image pair.cert bounds verdict text status
ComesWith (ScalesBehind scales) pair image verdict text status = IsScalesJudged pair.machine image pair.cert scales verdict text status
ComesWith (EditsBehind edits) pair image verdict text status = AreEditsTold pair.machine image pair.cert edits verdict text status

-- The text and the status are those of the verdict of the pair's certificate for the image of the words of its source, and of what
-- stands with it.
pub record IsJudgementOf (pair : Pair) (sequel : Sequel) (text : List ℕ) (status : Status) : Type 0 where
  pub image : List (Option ℕ)
  pub image_is : IsImageOf (placed_words pair.assembly.defined) image
  pub verdict : Verdict Value
  pub is_verdict : IsVerdict value_meaning pair.machine image (certificate_of pair.cert) verdict
  pub comes : ComesWith sequel pair image verdict text status

-- the work makes this text, with this status
abbrev pub Makes : Work → (text : List ℕ) → Status → Type 0
Makes NoForm text status = (text ≡ words_line) × (status ≡ BadWords)
Makes (WriteText what assembly) text status = IsTextOf what assembly text × (status ≡ Done)
Makes (CompareImages defined listed) text status = IsComparisonOf defined listed text status
Makes (JudgePair pair sequel) text status = IsJudgementOf pair sequel text status
Makes (PlayScript machine defined commands) text status = IsShownBy machine defined commands text × (status ≡ Done)
