-- What `ags_main` comes to, command by command and status by status, in the program's own words.
use Rattle.std.specs.Prelude.{◌≡◌, ℕ, ◌≤◌, ◌⊎◌, All, List, [], ◌++◌, length, Option, Some, None, Ok, Err}
use Rattle.ags_command.specs.declared.source_texts.SourceText.{SourceText}
use Rattle.ags_command.specs.Command as command
use Rattle.ags_command.specs.Command.{line_arguments, asked_arguments, AreNoForm}
use Rattle.ags_load.specs.Workload.{source_text, cert_text}
use Rattle.ags_outside.specs.ToldFile.{Stored}
use Rattle.ags_outside.specs.Sink.{appended, WroteFront}
use Rattle.ags_plan.specs.Plan.{WorkAt}
use Rattle.ags_plan.specs.Walk.{Told as ToldFiles, Agrees, Tells, EndsAt, IsGiven}
use Rattle.ags_plan.specs.Outcome as plan
use Rattle.ags_places.specs.declared.source_error.SourceError.{SourceError}
use Rattle.ags_cert.specs.Length.{certificate_limit}
use Rattle.ags_machfile.specs.Limit.{machine_limit}
use Rattle.ags_places.specs.Limit.{source_limit}
use Rattle.ags_asm.specs.Source.{CardWords, Defines, IsFaulty, placed_words}
use Rattle.ags_cert.specs.Cert.{Stated, certificate_of}
use Rattle.ags_certtext.specs.declared.cert_error.CertKind.{CertKind}
use Rattle.ags_budget.specs.Spent.{KeepsBounds}
use Rattle.ags_budget.specs.declared.answers.Timed.TheVariants.{Within}
use Rattle.ags_cert.specs.Text.{IsCertOf, IsFaultyCert}
use Rattle.ags_domain.specs.Value.{value_meaning}
use Rattle.ags_domain.specs.declared.values.Value.{Value}
use Rattle.ags_image.specs.Image.{IsImageOf}
use Rattle.ags_listing.specs.Reads.{Reads}
use Rattle.ags_machfile.specs.declared.mach_error.MachError.{MachError}
use Rattle.ags_machfile.specs.MachineFile.{machine_of}
use Rattle.ags_ports.specs.declared.events.Event.{Event}
use Rattle.ags_ports.specs.declared.machines.Machine.{Machine}
use Rattle.ags_ports.specs.Machine.{IsMachine, standard_machine}
use Rattle.ags_safe.specs.Accepted.{Accepted}
use Rattle.ags_safe.specs.Safe.{Safe}
use Rattle.ags_scale.specs.Tagged.{KeepsScales}
use Rattle.ags_scale.specs.declared.answers.Scaled.TheVariants.{Agree}
use Rattle.ags_check.specs.Judging.{Judging}
use Rattle.ags_edits.specs.declared.edits.Edit.{Edit}
use Rattle.ags_edits.specs.Text.{IsEditsOf}
use Rattle.ags_recheck.specs.Told.{AreTold}
use Rattle.ags_recheck.specs.declared.telling.Told.{Told}
use Rattle.ags_recheck.specs.declared.telling.Told.TheVariants.{Made, NotMade}
use Rattle.ags_times.specs.Budget.{IsGreatest}
use Rattle.ags_verdict.specs.Verdict.{IsVerdict}
use Rattle.ags_verdict.specs.declared.verdicts.Refusal.{Refusal}
use Rattle.ags_verdict.specs.declared.verdicts.Verdict.{Verdict}
use Rattle.ags_verdict.specs.declared.verdicts.Verdict.TheVariants.{Certified, Refused}
use Rattle.ags_script.specs.declared.commands.Command.{Command}
use Rattle.ags_script.specs.Script.{IsScript}
use Rattle.ags_play.specs.Begun.{IsRunOf}
use Rattle.ags_play.specs.Bench.{begun_state}
use Rattle.ags_play.specs.Cut.{IsSafeWhereCut}
use Rattle.ags_play.specs.Guard.{Outside}
use Rattle.ags_play.specs.Played.{Met, OutsideStart, IsPlayOf}
use Rattle.ags_program.specs.declared.status.Status.{Status}
use Rattle.ags_program.specs.declared.status.Status.TheVariants.{Done, No, BadMachine, BadSource, BadWords, BadCert, BadText}
use Rattle.ags_program.specs.Files.{Kind, MachineFile, Source, Certificate, limit_of, Refuses, refused_status}
use Rattle.ags_program.specs.Program.{program, plan_of}
use Rattle.ags_program.specs.Text.{certified_word, edit_lines, met_line, scaled_line, timed_line, verdict_line, words_line, workload_line}
use Rattle.ags_program.specs.Work.{Work, ListingBefore, CountsInstead, IsTextOf, IsComparisonOf, IsJudgementOf, IsShownBy, met_status, Makes}
use Rattle.ags_listing.specs.Listing.{listing}
use Rattle.ags_top.specs.ThirdFile.{ThirdFile, guarded_script, text_of_times, text_of_scales, text_of_edits, IsJudgedWith, IsKeptWith}

-- One call of `ags_main`: what the shelf tells, the arguments, what the sink told before and after it, and the status.
pub record Call : Type 0 where
  pub told : ToldFiles
  pub arguments : List (List ℕ)
  pub old : Option (List ℕ)
  pub new : Option (List ℕ)
  pub result : Status

-- the run ends with that status, unless it stops
abbrev pub EndsWith : (result status : Status) → Type 0
EndsWith result status = plan.EndsWith program result status

-- ---- the work that is done

-- The machine that a command line is for: the standard one where no file is named, and else one of valid tables, which is that of
-- the file where the shelf tells it.
abbrev pub IsMachineOf : (told : ToldFiles) → Option (List ℕ) → Machine → Type 0
IsMachineOf told None machine = machine ≡ standard_machine
IsMachineOf told (Some name) machine = IsMachine machine × ((bytes : List ℕ) → told name ≡ Stored bytes → machine_of bytes ≡ Ok machine)

-- Where a run that writes a text of a source is done, and the shelf and the sink tell, the sink took exactly that text of the words
-- that the source defines, by the codes of the machine that the command line is for.
abbrev pub WritesWhatIsDefined : (what : SourceText) → Call → Type 0
WritesWhatIsDefined what call = (name bytes held : List ℕ) (machine_file : Option (List ℕ)) → call.result ≡ Done
    → call.arguments ≡ line_arguments (record { command = command.Write what name; machine = machine_file }) → call.told name ≡ Stored bytes → call.old ≡ Some held
    → (machine : Machine) × IsMachineOf call.told machine_file machine
    × ((defined : CardWords) × Defines machine.codes bytes defined
    × ((text : List ℕ) × IsTextOf what (record { bytes = bytes; defined = defined }) text × (call.new ≡ Some (held ++ text))))

-- The source defines words, the listing has an image, and this is the text and the status of how they compare.
pub record IsComparedOn (machine : Machine) (source listing text : List ℕ) (status : Status) : Type 0 where
  pub defined : CardWords
  pub defines : Defines machine.codes source defined
  pub listed : List (Option ℕ)
  pub reads : Reads listing listed
  pub comparison : IsComparisonOf defined listed text status

-- Where the run of `compare` ends with Done or with No, and the shelf and the sink tell, it says how the words that the source
-- defines compare with those of the listing: they are the same, or there is a least place where they differ.
abbrev pub ComparesWhatIsDefined : Call → Type 0
ComparesWhatIsDefined call = (source listing source_bytes listing_bytes held : List ℕ) (machine_file : Option (List ℕ))
    → (call.result ≡ Done) ⊎ (call.result ≡ No)
    → call.arguments ≡ line_arguments (record { command = command.Compare source listing; machine = machine_file }) → call.told source ≡ Stored source_bytes → call.told listing ≡ Stored listing_bytes → call.old ≡ Some held
    → (machine : Machine) × IsMachineOf call.told machine_file machine
    × ((text : List ℕ) × IsComparedOn machine source_bytes listing_bytes text call.result × (call.new ≡ Some (held ++ text)))

-- One image has exactly the words that the source defines, and is what the listing reads as.
pub record IsOneImage (machine : Machine) (source listing : List ℕ) : Type 0 where
  pub defined : CardWords
  pub defines : Defines machine.codes source defined
  pub image : List (Option ℕ)
  pub image_is : IsImageOf (placed_words defined) image
  pub reads : Reads listing image

-- The headline of `compare`: where its run is done, and the shelf tells, the words that the source defines are those of the listing.
abbrev pub EqualsWhatIsDefined : Call → Type 0
EqualsWhatIsDefined call = (source listing source_bytes listing_bytes : List ℕ) (machine_file : Option (List ℕ)) → call.result ≡ Done
    → call.arguments ≡ line_arguments (record { command = command.Compare source listing; machine = machine_file }) → call.told source ≡ Stored source_bytes → call.told listing ≡ Stored listing_bytes
    → (machine : Machine) × IsMachineOf call.told machine_file machine × IsOneImage machine source_bytes listing_bytes

-- The source defines words, the text is a certificate for the machine's registers, and this is the text and the status of what comes
-- of judging it.
pub record IsJudgedOn (machine : Machine) (source certificate text : List ℕ) (status : Status) : Type 0 where
  pub defined : CardWords
  pub defines : Defines machine.codes source defined
  pub cert : Stated
  pub is_cert : IsCertOf machine.ports certificate cert
  pub judgement : IsJudgementOf (record { machine = machine; assembly = record { bytes = source; defined = defined }; cert = cert }) ListingBefore text status

-- Where the run of `certify` ends with Done or with No, and the shelf and the sink tell, the sink took the listing of the words that
-- the source defines and the verdict of the certificate for them: certified, or the first item that fails.
abbrev pub JudgesWhatIsDefined : Call → Type 0
JudgesWhatIsDefined call = (source certificate source_bytes certificate_bytes held : List ℕ) (machine_file : Option (List ℕ))
    → (call.result ≡ Done) ⊎ (call.result ≡ No)
    → call.arguments ≡ line_arguments (record { command = command.Certify source certificate; machine = machine_file }) → call.told source ≡ Stored source_bytes
    → call.told certificate ≡ Stored certificate_bytes → call.old ≡ Some held
    → (machine : Machine) × IsMachineOf call.told machine_file machine
    × ((text : List ℕ) × IsJudgedOn machine source_bytes certificate_bytes text call.result × (call.new ≡ Some (held ++ text)))

-- The machine's tables are valid. The text is the listing of exactly the words that the source defines, and says that the certificate
-- is certified with the numbers of its rows and of its cases, which is its verdict; and of the image of these words every run is safe,
-- over every list of events that the certificate declares.
pub record IsCertifiedOn (machine : Machine) (source certificate text : List ℕ) : Type 0 where
  pub valid : IsMachine machine
  pub defined : CardWords
  pub defines : Defines machine.codes source defined
  pub image : List (Option ℕ)
  pub image_is : IsImageOf (placed_words defined) image
  pub cert : Stated
  pub is_cert : IsCertOf machine.ports certificate cert
  pub accepted : Accepted value_meaning machine image (certificate_of cert)
  pub safe : Safe value_meaning machine image (certificate_of cert)
  pub cases : ℕ
  pub verdict : IsVerdict value_meaning machine image (certificate_of cert) (Certified (length cert.rows) cases)
  pub text_is : text ≡ listing source defined ++ verdict_line (Certified (length cert.rows) cases)

-- The headline: where the run of `certify` is done, and the shelf tells, the words that the source defines are safe in every run; and
-- where the sink tells, it took their listing and that they are certified.
abbrev pub CertifiesWhatIsSafe : Call → Type 0
CertifiesWhatIsSafe call = (source certificate source_bytes certificate_bytes : List ℕ) (machine_file : Option (List ℕ)) → call.result ≡ Done
    → call.arguments ≡ line_arguments (record { command = command.Certify source certificate; machine = machine_file }) → call.told source ≡ Stored source_bytes
    → call.told certificate ≡ Stored certificate_bytes
    → (machine : Machine) × IsMachineOf call.told machine_file machine
    × ((text : List ℕ) × IsCertifiedOn machine source_bytes certificate_bytes text × (call.new ≡ appended call.old text))

-- The machine that a command line is for is told: the standard one where no file is named, and else that of the file, which is within
-- its limit.
abbrev pub TellsMachine : (told : ToldFiles) → Option (List ℕ) → Machine → Type 0
TellsMachine told None machine = machine ≡ standard_machine
TellsMachine told (Some name) machine = (bytes : List ℕ) × (told name ≡ Stored bytes) × (length bytes ≤ machine_limit) × (machine_of bytes ≡ Ok machine)

-- A source and a certificate are told, within their limits and without a fault, and the certificate is accepted for the words that the
-- source defines.
pub record TellsAccepted (told : ToldFiles) (machine : Machine) (source certificate : List ℕ) : Type 0 where
  pub source_bytes : List ℕ
  pub source_told : told source ≡ Stored source_bytes
  pub source_short : length source_bytes ≤ source_limit
  pub defined : CardWords
  pub defines : Defines machine.codes source_bytes defined
  pub image : List (Option ℕ)
  pub image_is : IsImageOf (placed_words defined) image
  pub certificate_bytes : List ℕ
  pub certificate_told : told certificate ≡ Stored certificate_bytes
  pub certificate_short : length certificate_bytes ≤ certificate_limit
  pub cert : Stated
  pub is_cert : IsCertOf machine.ports certificate_bytes cert
  pub accepted : Accepted value_meaning machine image (certificate_of cert)

-- Completeness: an accepted certificate over told files is certified, unless the run stops.
abbrev pub CertifiesAccepted : Call → Type 0
CertifiesAccepted call = (source certificate : List ℕ) (machine_file : Option (List ℕ)) (machine : Machine)
    → call.arguments ≡ line_arguments (record { command = command.Certify source certificate; machine = machine_file })
    → TellsMachine call.told machine_file machine → TellsAccepted call.told machine source certificate → EndsWith call.result Done

-- The source defines words, the script has commands for the machine, and the text is their play on these words.
pub record IsShownOn (machine : Machine) (source script text : List ℕ) : Type 0 where
  pub defined : CardWords
  pub defines : Defines machine.codes source defined
  pub commands : List Command
  pub is_script : IsScript machine script commands
  pub play : IsShownBy machine defined commands text

-- Where the run of `run` is done, and the shelf and the sink tell, the sink took exactly what the script's play prints on the
-- words that the source defines, on the machine that the command line is for.
abbrev pub PlaysWhatIsDefined : Call → Type 0
PlaysWhatIsDefined call = (source script source_bytes script_bytes held : List ℕ) (machine_file : Option (List ℕ)) → call.result ≡ Done
    → call.arguments ≡ line_arguments (record { command = command.Run source script; machine = machine_file }) → call.told source ≡ Stored source_bytes → call.told script ≡ Stored script_bytes → call.old ≡ Some held
    → (machine : Machine) × IsMachineOf call.told machine_file machine × ((text : List ℕ) × IsShownOn machine source_bytes script_bytes text × (call.new ≡ Some (held ++ text)))

-- Where the run of `guard` ends with Done or with No, and the shelf and the sink tell, the sink took the verdict of the certificate for
-- the words that the source defines, and, where it is certified, what the script's play shows on them with the certificate as its
-- guard, and what the play met.
abbrev pub GuardsWhatIsDefined : Call → Type 0
GuardsWhatIsDefined call = (source script certificate source_bytes script_bytes certificate_bytes held : List ℕ) (machine_file : Option (List ℕ))
    → (call.result ≡ Done) ⊎ (call.result ≡ No)
    → call.arguments ≡ line_arguments (record { command = command.Guard source script certificate; machine = machine_file }) → call.told source ≡ Stored source_bytes
    → call.told script ≡ Stored script_bytes → call.told certificate ≡ Stored certificate_bytes → call.old ≡ Some held
    → (machine : Machine) × IsMachineOf call.told machine_file machine
    × ((text : List ℕ) × IsJudgedWith guarded_script machine source_bytes certificate_bytes script_bytes text call.result × (call.new ≡ Some (held ++ text)))

-- The certificate is refused by its verdict for the image: the text is the line of that, and the answer is no.
pub record IsRefusedFor (machine : Machine) (image : List (Option ℕ)) (cert : Stated) (text : List ℕ) (status : Status) : Type 0 where
  pub refusal : Refusal Value
  pub is_verdict : IsVerdict value_meaning machine image (certificate_of cert) (Refused refusal)
  pub text_is : text ≡ verdict_line (Refused refusal)
  pub status_is : status ≡ No

-- The certificate is accepted for the image, so that every run is safe, over every list of events that it declares; and the script's
-- play under it is such a run: its events are declared, and lead from a start of the certificate; and wherever the play is cut, so
-- also at each state that it shows, the state is a safe one. Where the script sets a start that isn't one there is no event, and
-- nothing shown. The text says that the certificate is certified, with the numbers that are its verdict, then what the play shows along
-- that very run, and then what it met.
pub record IsDeclaredPlay (machine : Machine) (image : List (Option ℕ)) (cert : Stated) (commands : List Command) (text : List ℕ) (status : Status) : Type 0 where
  pub accepted : Accepted value_meaning machine image (certificate_of cert)
  pub safe : Safe value_meaning machine image (certificate_of cert)
  pub events : List Event
  pub shown : List ℕ
  pub met : Met
  pub plays : IsPlayOf machine image (Some (certificate_of cert)) commands events shown met
  pub run : ((outside : Outside) → met ≡ OutsideStart outside → ⊥)
      → IsRunOf machine image (certificate_of cert) (begun_state machine image (Some (certificate_of cert)) commands) events
  pub cut : ((outside : Outside) → met ≡ OutsideStart outside → ⊥) → IsSafeWhereCut machine image (certificate_of cert) commands
  pub nothing : (outside : Outside) → met ≡ OutsideStart outside → (events ≡ []) × (shown ≡ [])
  pub cases : ℕ
  pub verdict : IsVerdict value_meaning machine image (certificate_of cert) (Certified (length cert.rows) cases)
  pub text_is : text ≡ verdict_line (Certified (length cert.rows) cases) ++ shown ++ met_line met
  pub status_is : status ≡ met_status met

-- The source defines words, the certificate is one for the machine's registers and the script has commands for the machine; and this
-- comes of them for the image of exactly these words.
pub record ComesOn (Comes : (image : List (Option ℕ)) → Stated → List Command → Type 0) (machine : Machine) (source script certificate : List ℕ) : Type 0 where
  pub defined : CardWords
  pub defines : Defines machine.codes source defined
  pub image : List (Option ℕ)
  pub image_is : IsImageOf (placed_words defined) image
  pub cert : Stated
  pub is_cert : IsCertOf machine.ports certificate cert
  pub commands : List Command
  pub is_script : IsScript machine script commands
  pub comes : Comes image cert commands

-- the certificate is refused for the words that the source defines, or the script's play on them is a run of it, or is nothing, where the
-- script sets a start that isn't one
abbrev pub IsDeclaredOn : Machine → (source script certificate text : List ℕ) → Status → Type 0
IsDeclaredOn machine source script certificate text status =
    ComesOn (λ image cert commands. IsRefusedFor machine image cert text status ⊎ IsDeclaredPlay machine image cert commands text status) machine source script certificate

-- the certificate is accepted for the words that the source defines, and the script's play on them is a run of it, or is nothing, where
-- the script sets a start that isn't one
abbrev pub IsAcceptedPlayOn : Machine → (source script certificate text : List ℕ) → Status → Type 0
IsAcceptedPlayOn machine source script certificate text status =
    ComesOn (λ image cert commands. IsDeclaredPlay machine image cert commands text status) machine source script certificate

-- The actual run: where the run of `guard` ends with Done or with No, and the shelf tells, what is played is a run of the certificate,
-- every run of which is safe, or the certificate is refused; and where the sink tells, it took what is shown of that run.
abbrev pub PlaysWhatIsDeclared : Call → Type 0
PlaysWhatIsDeclared call = (source script certificate source_bytes script_bytes certificate_bytes : List ℕ) (machine_file : Option (List ℕ))
    → (call.result ≡ Done) ⊎ (call.result ≡ No)
    → call.arguments ≡ line_arguments (record { command = command.Guard source script certificate; machine = machine_file }) → call.told source ≡ Stored source_bytes
    → call.told script ≡ Stored script_bytes → call.told certificate ≡ Stored certificate_bytes
    → (machine : Machine) × IsMachineOf call.told machine_file machine
    × ((text : List ℕ) × IsDeclaredOn machine source_bytes script_bytes certificate_bytes text call.result × (call.new ≡ appended call.old text))

-- Where the shelf and the sink tell, and what the sink took of a run of `guard` begins as the line of a certificate that is certified
-- does, then, whatever the run ends with, the certificate is accepted for the words that the source defines, so that every run of
-- them is safe; and what the sink took is a front, or all, of what is printed of such a play.
abbrev pub SafeWhereCertifiedIsWritten : Call → Type 0
SafeWhereCertifiedIsWritten call =
    (source script certificate source_bytes script_bytes certificate_bytes held behind : List ℕ) (machine_file : Option (List ℕ))
    → call.arguments ≡ line_arguments (record { command = command.Guard source script certificate; machine = machine_file }) → call.told source ≡ Stored source_bytes
    → call.told script ≡ Stored script_bytes → call.told certificate ≡ Stored certificate_bytes → call.old ≡ Some held → call.new ≡ Some (held ++ (certified_word ++ behind))
    → (machine : Machine) × IsMachineOf call.told machine_file machine
    × ((text : List ℕ) × (status : Status) × IsAcceptedPlayOn machine source_bytes script_bytes certificate_bytes text status × WroteFront call.old call.new text)

-- The source of the workload of that size defines words, its certificate is one for the registers of the standard machine, and this is
-- the text and the status of the verdict: the counts where it is certified, or its line.
pub record IsWorkloadJudged (size : ℕ) (text : List ℕ) (status : Status) : Type 0 where
  pub defined : CardWords
  pub defines : Defines standard_machine.codes (source_text size) defined
  pub cert : Stated
  pub is_cert : IsCertOf standard_machine.ports (cert_text size) cert
  pub judgement : IsJudgementOf (record { machine = standard_machine; assembly = record { bytes = source_text size; defined = defined }; cert = cert }) (CountsInstead size) text status

-- Where the run of `workload` ends with Done or with No, the sink took what is said of the workload of that size by the verdict of its
-- certificate for the words that its source defines.
abbrev pub JudgesWorkload : Call → Type 0
JudgesWorkload call = (size : ℕ) → (1 ≤ size) × (size ≤ 400) → (call.result ≡ Done) ⊎ (call.result ≡ No) → call.arguments ≡ asked_arguments (command.Workload size)
    → (text : List ℕ) × IsWorkloadJudged size text call.result × (call.new ≡ appended call.old text)

-- The text says that the workload of that size is certified, with the numbers of its cards, its words, the rows of its certificate and
-- their cases, which is its verdict for exactly the words that its source defines; and of the image of these words every run is safe,
-- over every list of events that the certificate declares.
pub record IsWorkloadCertified (size : ℕ) (text : List ℕ) : Type 0 where
  pub defined : CardWords
  pub defines : Defines standard_machine.codes (source_text size) defined
  pub image : List (Option ℕ)
  pub image_is : IsImageOf (placed_words defined) image
  pub cert : Stated
  pub is_cert : IsCertOf standard_machine.ports (cert_text size) cert
  pub accepted : Accepted value_meaning standard_machine image (certificate_of cert)
  pub safe : Safe value_meaning standard_machine image (certificate_of cert)
  pub cases : ℕ
  pub verdict : IsVerdict value_meaning standard_machine image (certificate_of cert) (Certified (length cert.rows) cases)
  pub text_is : text ≡ workload_line size (length defined) (length (placed_words defined)) (length cert.rows) cases

-- Where the run of `workload` is done, the words that its source defines are safe in every run, and the sink took the line of the
-- counts.
abbrev pub CertifiesWorkload : Call → Type 0
CertifiesWorkload call = (size : ℕ) → (1 ≤ size) × (size ≤ 400) → call.result ≡ Done → call.arguments ≡ asked_arguments (command.Workload size)
    → (text : List ℕ) × IsWorkloadCertified size text × (call.new ≡ appended call.old text)

-- Where the run of a command with a third file ends with Done or with No, and the shelf and the sink tell, the sink took the verdict of the
-- certificate for the words that the source defines, and what stands with it for what the third file holds.
abbrev pub JudgesWith : ThirdFile → Call → Type 0
JudgesWith file call = (source certificate third source_bytes certificate_bytes third_bytes held : List ℕ) (machine_file : Option (List ℕ))
    → (call.result ≡ Done) ⊎ (call.result ≡ No)
    → call.arguments ≡ line_arguments (record { command = file.command source certificate third; machine = machine_file })
    → call.told source ≡ Stored source_bytes → call.told certificate ≡ Stored certificate_bytes → call.told third ≡ Stored third_bytes → call.old ≡ Some held
    → (machine : Machine) × IsMachineOf call.told machine_file machine
    × ((text : List ℕ) × IsJudgedWith file machine source_bytes certificate_bytes third_bytes text call.result × (call.new ≡ Some (held ++ text)))

-- Where the run of a command with a third file is done, and the shelf tells, this holds of the machine, of the three files and of a text; and
-- where the sink tells, it took that text.
abbrev pub HoldsWhereDone : ThirdFile → (Holds : Machine → (source certificate third text : List ℕ) → Type 0) → Call → Type 0
HoldsWhereDone file Holds call = (source certificate third source_bytes certificate_bytes third_bytes : List ℕ) (machine_file : Option (List ℕ))
    → call.result ≡ Done
    → call.arguments ≡ line_arguments (record { command = file.command source certificate third; machine = machine_file })
    → call.told source ≡ Stored source_bytes → call.told certificate ≡ Stored certificate_bytes → call.told third ≡ Stored third_bytes
    → (machine : Machine) × IsMachineOf call.told machine_file machine
    × ((text : List ℕ) × Holds machine source_bytes certificate_bytes third_bytes text × (call.new ≡ appended call.old text))

-- What the sink took of a run of `budget`: the verdict, and, where it is certified, what comes of the bounds of the certificate's rows: the
-- greatest, or the first case that needs more than its row's.
abbrev pub JudgesBudget : Call → Type 0
JudgesBudget = JudgesWith text_of_times

-- The bounds are kept: at each state of each run of the certificate the order time since the start, or since the last pulse that ended a
-- wait, is within the bound of each row that held the state then, and within 20,000 microseconds. The line says which is the greatest
-- bound.
abbrev pub IsBoundedOn : Machine → (source certificate times text : List ℕ) → Type 0
IsBoundedOn = IsKeptWith text_of_times (λ machine image cert bounds. KeepsBounds value_meaning machine image (certificate_of cert) bounds)
    (λ machine cert bounds cases line. (greatest : ℕ) × IsGreatest bounds greatest × (line ≡ timed_line (Within (length cert.rows) cases greatest)))

-- The headline of `budget`: where its run is done, and the shelf tells, the order time of each cycle stays within the bounds in every run of
-- the words that the source defines, and every such run is safe; and where the sink tells, it took that they are certified, and the
-- greatest bound.
abbrev pub BoundsOrderTime : Call → Type 0
BoundsOrderTime = HoldsWhereDone text_of_times IsBoundedOn

-- What the sink took of a run of `scales`: the verdict, and, where it is certified, what comes of the scales: that they agree, that no row
-- holds the start with raw tags, or the first case that mixes tags or loses them.
abbrev pub JudgesScales : Call → Type 0
JudgesScales = JudgesWith text_of_scales

-- The scales are kept: no tagged run over a run of the certificate faults, so that no sum, store or output ever has two unlike tags meet,
-- and each sum and difference, and what ALS, LRS and MPY leave, stands for what its scales say. The line says that the scales agree.
abbrev pub IsTaggedOn : Machine → (source certificate scales text : List ℕ) → Type 0
IsTaggedOn = IsKeptWith text_of_scales (λ machine image cert declared. KeepsScales value_meaning machine image (certificate_of cert) declared)
    (λ machine cert declared cases line. line ≡ scaled_line (Agree (length cert.rows) cases))

-- The headline of `scales`: where its run is done, and the shelf tells, no run of the words that the source defines adds, stores or gives
-- words of unlike scales, and every such run is safe; and where the sink tells, it took that they are certified, and that the scales
-- agree.
abbrev pub KeepsDeclaredScales : Call → Type 0
KeepsDeclaredScales = HoldsWhereDone text_of_scales IsTaggedOn

-- What the sink took of a run of `edits`: the verdict, and after it a line for each edit, made one after the other: the verdict of the
-- edited certificate for the edited words, which is what a check of them from nothing tells; or why it isn't made, and then nothing
-- changed.
abbrev pub JudgesEdits : Call → Type 0
JudgesEdits = JudgesWith text_of_edits

-- the edit was made
abbrev pub IsMade : Told → Type 0
IsMade (Made verdict) = Unit {0}
IsMade (NotMade error) = ⊥

-- The machine's tables are valid. The source defines words, the certificate is one for the machine's registers, and the text of edits
-- states these edits. Each of them was made, one after the other, of the image of exactly these words and of the certificate; and what
-- they leave of the certificate is accepted for what they leave of the image, so that every run of that is safe, over every list of
-- events that it declares. The text is the verdict of the certificate, and a line for each edit.
pub record IsEditedOn (machine : Machine) (source certificate edits text : List ℕ) : Type 0 where
  pub valid : IsMachine machine
  pub defined : CardWords
  pub defines : Defines machine.codes source defined
  pub image : List (Option ℕ)
  pub image_is : IsImageOf (placed_words defined) image
  pub cert : Stated
  pub is_cert : IsCertOf machine.ports certificate cert
  pub made : List Edit
  pub are_edits : IsEditsOf edits made
  pub told : List Told
  pub after : Judging
  pub are_told : AreTold (record { machine = machine; image = image; cert = cert }) made told after
  pub each_made : All IsMade told
  pub accepted : Accepted value_meaning machine after.image (certificate_of after.cert)
  pub safe : Safe value_meaning machine after.image (certificate_of after.cert)
  pub verdict : Verdict Value
  pub is_verdict : IsVerdict value_meaning machine image (certificate_of cert) verdict
  pub text_is : text ≡ verdict_line verdict ++ edit_lines 1 told

-- The headline of `edits`: where its run is done, and the shelf tells, each edit was made, and every run of the edited words is safe; and
-- where the sink tells, it took the verdict and the line of each edit.
abbrev pub EditsToWhatIsSafe : Call → Type 0
EditsToWhatIsSafe = HoldsWhereDone text_of_edits IsEditedOn

-- Where the walk over told files comes to a work that is done with Done, the run ends so, unless it stops: each file on the way
-- is there, within its limit and without a fault.
abbrev pub DoneAlways : Call → Type 0
DoneAlways call = (work : Work) (text : List ℕ) → EndsAt program Tells call.told (plan_of call.arguments) (WorkAt work) → Makes work text Done → EndsWith call.result Done

-- ---- status by status

-- Over files that agree with what the shelf tells, the walk comes to a work whose answer is no, and the sink took its text.
pub record AnswersNo (call : Call) : Type 0 where
  pub work : Work
  pub text : List ℕ
  pub ends : EndsAt program Agrees call.told (plan_of call.arguments) (WorkAt work)
  pub makes : Makes work text No
  pub sent : call.new ≡ appended call.old text

-- No comes exactly where the walk comes to a work whose answer is no: a listing has other words than its source, a certificate is
-- refused by its verdict, a play meets a start or a word that its guard doesn't declare, a case needs more than its row's bound,
-- scales don't agree, or an edit isn't made or the last verdict refuses
pub record NoExactly (call : Call) : Type 0 where
  pub only : call.result ≡ No → AnswersNo call
  pub always : (work : Work) (text : List ℕ) → EndsAt program Tells call.told (plan_of call.arguments) (WorkAt work) → Makes work text No → EndsWith call.result No

-- The arguments are none of the forms, and the sink took the line that says so.
pub record SaysNoForm (call : Call) : Type 0 where
  pub none : AreNoForm call.arguments
  pub sent : call.new ≡ appended call.old words_line

-- BadWords comes exactly where the arguments are none of the forms, which is printed
pub record BadWordsExactly (call : Call) : Type 0 where
  pub only : call.result ≡ BadWords → SaysNoForm call
  pub always : AreNoForm call.arguments → EndsWith call.result BadWords

-- Over files that agree with what the shelf tells, the walk comes to a file of that kind that is within its limit and has a fault, and
-- the sink took the line of its first one.
pub record FindsFault (kind : Kind) (call : Call) : Type 0 where
  pub name : List ℕ
  pub bytes : List ℕ
  pub given : IsGiven program Agrees call.told (plan_of call.arguments) kind name bytes
  pub short : length bytes ≤ limit_of kind
  pub line : List ℕ
  pub refuses : Refuses kind bytes line
  pub sent : call.new ≡ appended call.old line

-- BadMachine comes exactly where the walk comes to a machine file that fails a test; the first one is printed
pub record BadMachineExactly (call : Call) : Type 0 where
  pub only : call.result ≡ BadMachine → FindsFault MachineFile call
  pub always : (name bytes : List ℕ) (error : MachError) → IsGiven program Tells call.told (plan_of call.arguments) MachineFile name bytes → length bytes ≤ machine_limit
      → machine_of bytes ≡ Err error → EndsWith call.result BadMachine

-- BadSource comes exactly where the walk comes to a source that has a faulty card, whose number and fault are printed
pub record BadSourceExactly (call : Call) : Type 0 where
  pub only : call.result ≡ BadSource → (machine : Machine) × FindsFault (Source machine) call
  pub always : (machine : Machine) (name bytes : List ℕ) (error : SourceError) → IsGiven program Tells call.told (plan_of call.arguments) (Source machine) name bytes
      → length bytes ≤ source_limit → IsFaulty bytes error → EndsWith call.result BadSource

-- BadCert comes exactly where the walk comes to a certificate that has a faulty line, whose number and fault are printed
pub record BadCertExactly (call : Call) : Type 0 where
  pub only : call.result ≡ BadCert → (machine : Machine) × FindsFault (Certificate machine) call
  pub always : (machine : Machine) (name bytes : List ℕ) (line : ℕ) (kind : CertKind) → IsGiven program Tells call.told (plan_of call.arguments) (Certificate machine) name bytes
      → length bytes ≤ certificate_limit → IsFaultyCert machine.ports bytes line kind → EndsWith call.result BadCert

-- BadText comes exactly where the walk comes to a file of a kind that is refused with it, as a listing, a script, or a text of times, of
-- scales or of edits, and that has a faulty line, whose number and fault are printed
pub record BadTextExactly (call : Call) : Type 0 where
  pub only : call.result ≡ BadText → (kind : Kind) × (refused_status kind ≡ BadText) × FindsFault kind call
  pub always : (kind : Kind) (name bytes line : List ℕ) → refused_status kind ≡ BadText → IsGiven program Tells call.told (plan_of call.arguments) kind name bytes
      → length bytes ≤ limit_of kind → Refuses kind bytes line → EndsWith call.result BadText
