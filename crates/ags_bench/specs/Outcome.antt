-- What a call of the bench comes to: what is certified, how far the script is driven, and with which devices it leaves; and status by
-- status, where it comes of what the files hold.
use Rattle.std.specs.Prelude.{◌≡◌, ◌≢◌, ◌⊎◌, ℕ, ◌≤◌, List, [], ◌++◌, length, Option, Some, None, Err}
use Rattle.ags_asm.specs.Source.{IsFaulty, placed_words}
use Rattle.ags_drive.specs.Act.{Act}
use Rattle.ags_drive.specs.Bench.{Bench, start_bench}
use Rattle.ags_drive.specs.BenchRun.{Met, Nothing, OutsideStart, IsBenchRun, IsPointOfRun}
use Rattle.ags_drive.specs.Cut.{IsRunAtPoint}
use Rattle.ags_drive.specs.Driven.{AreBehind}
use Rattle.ags_drive.specs.Played.{next_text, still_there}
use Rattle.ags_benchscript.specs.declared.commands.BenchCommand.{BenchCommand}
use Rattle.ags_benchscript.specs.Script.{IsFaultyScript}
use Rattle.ags_cert.specs.Cert.{certificate_of}
use Rattle.ags_cert.specs.Length.{certificate_limit}
use Rattle.ags_cert.specs.Text.{IsFaultyCert}
use Rattle.ags_certtext.specs.declared.cert_error.CertKind.{CertKind}
use Rattle.ags_device.specs.Record.{DeviceRecord}
use Rattle.ags_domain.specs.Value.{value_meaning}
use Rattle.ags_domain.specs.declared.values.Value.{Value}
use Rattle.ags_image.specs.Image.{IsImageOf}
use Rattle.ags_machfile.specs.declared.mach_error.MachError.{MachError}
use Rattle.ags_machfile.specs.Limit.{machine_limit}
use Rattle.ags_machfile.specs.MachineFile.{machine_of}
use Rattle.ags_outside.specs.Sink.{appended, WroteFront}
use Rattle.ags_places.specs.declared.source_error.SourceError.{SourceError}
use Rattle.ags_places.specs.Limit.{source_limit}
use Rattle.ags_plan.specs.Answer.{ComesWith}
use Rattle.ags_plan.specs.Outcome as plan
use Rattle.ags_plan.specs.Plan.{End, WorkAt}
use Rattle.ags_plan.specs.Walk.{Told, Sight, Agrees, Tells, EndsAt, IsGiven}
use Rattle.ags_play.specs.Begun.{IsRunOf}
use Rattle.ags_play.specs.Guard.{Outside}
use Rattle.ags_ports.specs.declared.events.Event.{Event}
use Rattle.ags_ports.specs.declared.machines.Machine.{Machine}
use Rattle.ags_ports.specs.Machine.{IsMachine}
use Rattle.ags_program.specs.Files.{Pair}
use Rattle.ags_program.specs.Text.{certified_word, verdict_line, words_line}
use Rattle.ags_safe.specs.Accepted.{Accepted}
use Rattle.ags_safe.specs.Safe.{Safe}
use Rattle.ags_script.specs.Limit.{script_limit}
use Rattle.ags_script.specs.declared.script_errors.ScriptKind.{ScriptKind}
use Rattle.ags_verdict.specs.Verdict.{IsVerdict}
use Rattle.ags_verdict.specs.declared.verdicts.Refusal.{Refusal}
use Rattle.ags_verdict.specs.declared.verdicts.Verdict.{Verdict}
use Rattle.ags_verdict.specs.declared.verdicts.Verdict.TheVariants.{Certified, Refused}
use Rattle.ags_program.specs.declared.status.Status.{Status}
use Rattle.ags_program.specs.declared.status.Status.TheVariants.{Done, No, WriteFault, BadMachine, BadSource, BadWords, BadCert, BadText, NoMemory}
use Rattle.ags_bench.specs.Files.{Kind, MachineFile, Source, Certificate, Script, limit_of, Refuses}
use Rattle.ags_bench.specs.Program.{program, plan_of}
use Rattle.ags_benchjudged.specs.Met.{met_line}
use Rattle.ags_bench.specs.Words.{AreNoForm}
use Rattle.ags_bench.specs.Work.{Work, DrivePair, Makes}

-- One call: what the shelf tells, the words, what the sink told before and after it, the devices as they were handed in and as they
-- are after it, and the status.
pub record Call : Type 0 where
  pub told : Told
  pub words : List (List ℕ)
  pub old : Option (List ℕ)
  pub new : Option (List ℕ)
  pub devices : List DeviceRecord
  pub devices_now : List DeviceRecord
  pub result : Status

-- the walk along the files that the words name ends so
abbrev pub EndsSo : (See : Sight) (call : Call) → End (program call.devices) → Type 0
EndsSo See call end = EndsAt (program call.devices) See call.told (plan_of call.devices call.words) end

-- the run ends with that status, unless it stops
abbrev pub EndsWith : Call → Status → Type 0
EndsWith call status = plan.EndsWith (program call.devices) call.result status

-- ---- what is certified

-- Over files that agree with what the shelf tells, the walk comes to a source, a certificate and a script for a machine of valid
-- tables; and the certificate is accepted for the image of exactly the words that the source defines, so that every run of them is
-- safe, over every list of events that the certificate declares. Its verdict has these numbers.
pub record IsCertified (call : Call) : Type 0 where
  pub pair : Pair
  pub lines : List (ℕ × BenchCommand)
  pub comes : EndsSo Agrees call (WorkAt (DrivePair pair lines))
  pub valid : IsMachine pair.machine
  pub image : List (Option ℕ)
  pub image_is : IsImageOf (placed_words pair.assembly.defined) image
  pub accepted : Accepted value_meaning pair.machine image (certificate_of pair.cert)
  pub safe : Safe value_meaning pair.machine image (certificate_of pair.cert)
  pub cases : ℕ
  pub verdict : IsVerdict value_meaning pair.machine image (certificate_of pair.cert) (Certified (length pair.cert.rows) cases)

-- the line that says so
abbrev pub line_of : (call : Call) → IsCertified call → List ℕ
line_of call is = verdict_line (Certified (length is.pair.cert.rows) is.cases)

-- the bench before the first act
abbrev pub bench_of : (call : Call) → IsCertified call → Bench
bench_of call is = start_bench is.pair.machine is.image (certificate_of is.pair.cert) call.devices

-- ---- how far the script is driven

-- The script is certified and driven with the devices that were handed in until it met that, and the devices are now those where its
-- run stops. The run is one of the certificate, from a start of it by events that it declares; or it met a start that the certificate
-- doesn't declare, and then has no event and shows nothing. Of what was printed up to there and the line of what is met this was sent.
pub record DroveTo (call : Call) (met : Met) (Sent : (printed last : List ℕ) → Type 0) : Type 0 where
  pub certified : IsCertified call
  pub events : List Event
  pub shown : List ℕ
  pub runs : IsBenchRun certified.pair.machine certified.image (certificate_of certified.pair.cert) call.devices certified.lines events shown call.devices_now met
  pub declared : ((outside : Outside) → met ≡ OutsideStart outside → ⊥)
      → IsRunOf certified.pair.machine certified.image (certificate_of certified.pair.cert) (bench_of call certified).core events
  pub nothing : (outside : Outside) → met ≡ OutsideStart outside → (events ≡ []) × (shown ≡ [])
  pub sent : Sent (line_of call certified ++ shown) (met_line met)

-- all of it was sent
abbrev pub IsSent : (call : Call) (printed last : List ℕ) → Type 0
IsSent call printed last = call.new ≡ appended call.old (printed ++ last)

-- all that was printed before was sent, and of the last line at most a front
abbrev pub IsSentInPart : (call : Call) (printed last : List ℕ) → Type 0
IsSentInPart call printed last = WroteFront (appended call.old printed) call.new last

-- The script is certified and was driven with the devices that were handed in up to a point of its run: the sink took the line of the
-- verdict and all that was printed up to there, and at most a front of what the next act prints. Where the start isn't outside, the
-- run up to there is one of the certificate by declared events; else it is nothing. The devices stand as is asked, over those that
-- were there first and are still, and over those of the point.
pub record DroveInPart (call : Call) (Stands : (first point : List DeviceRecord) → Type 0) : Type 0 where
  pub certified : IsCertified call
  pub events : List Event
  pub text : List ℕ
  pub here : Bench
  pub done : List Act
  pub rest : List Act
  pub point : IsPointOfRun certified.pair.machine certified.image (certificate_of certified.pair.cert) call.devices certified.lines events text here done rest
  pub declared : point.found ≡ None → IsRunAtPoint certified.pair.machine certified.image (certificate_of certified.pair.cert) (bench_of call certified) events here
  pub nothing : (outside : Outside) → point.found ≡ Some outside → (events ≡ []) × (text ≡ [])
  pub records : Stands (still_there call.devices done) here.devices
  pub front : WroteFront (appended call.old (line_of call certified ++ text)) call.new (next_text certified.pair.machine here rest)

-- Over files that agree with what the shelf tells, the certificate is refused by its verdict: the sink took the line of that.
pub record IsRefused (call : Call) : Type 0 where
  pub pair : Pair
  pub lines : List (ℕ × BenchCommand)
  pub comes : EndsSo Agrees call (WorkAt (DrivePair pair lines))
  pub image : List (Option ℕ)
  pub image_is : IsImageOf (placed_words pair.assembly.defined) image
  pub refusal : Refusal Value
  pub verdict : IsVerdict value_meaning pair.machine image (certificate_of pair.cert) (Refused refusal)
  pub sent : call.new ≡ appended call.old (verdict_line (Refused refusal))

-- the line of a verdict of the pair's certificate
abbrev pub IsLineOfVerdict : Pair → (line : List ℕ) → Type 0
IsLineOfVerdict pair line = (image : List (Option ℕ)) × IsImageOf (placed_words pair.assembly.defined) image
    × ((verdict : Verdict Value) × IsVerdict value_meaning pair.machine image (certificate_of pair.cert) verdict × (line ≡ verdict_line verdict))

-- the first line that comes with an end: that of the verdict, where a script is to be driven, and else all of its text
abbrev pub OpensWith : (devices : List DeviceRecord) → End (program devices) → (line : List ℕ) → Type 0
OpensWith devices (WorkAt (DrivePair pair lines)) line = IsLineOfVerdict pair line
OpensWith devices end line = (status : Status) × ComesWith (program devices) end line status

-- The line is the first one that is written, over files that agree with what the shelf tells.
pub record IsOpening (call : Call) (line : List ℕ) : Type 0 where
  pub end : End (program call.devices)
  pub ends : EndsSo Agrees call end
  pub opens : OpensWith call.devices end line

-- No device was asked or told anything, and the sink took nothing, or of the first line at most a front.
pub record Undriven (call : Call) : Type 0 where
  pub records : call.devices_now ≡ call.devices
  pub front : (call.new ≡ call.old) ⊎ ((line : List ℕ) × IsOpening call line × WroteFront call.old call.new line)

-- How a call leaves with this status: what was driven, what of it the sink took, and what the devices are.
-- Done: the script was driven to its end.
-- No: the certificate is refused, and the devices are as they were handed in; or the run met something, and they are those where it
-- stops.
-- The output failed: before the run; or at a point of it, whose devices they are; or in the line of what the run met.
-- Memory ran out: the same, but that at a point of the run each device may have heard less than there.
-- Else nothing was driven, and they are as they were handed in.
abbrev pub Leaves : Status → Call → Type 0
Leaves Done call = DroveTo call Nothing (IsSent call)
Leaves No call = (IsRefused call × (call.devices_now ≡ call.devices)) ⊎ ((met : Met) × (met ≢ Nothing) × DroveTo call met (IsSent call))
Leaves WriteFault call = Undriven call ⊎ (DroveInPart call (λ first point. call.devices_now ≡ point) ⊎ ((met : Met) × DroveTo call met (IsSentInPart call)))
Leaves NoMemory call = Undriven call ⊎ (DroveInPart call (λ first point. AreBehind first call.devices_now point) ⊎ ((met : Met) × DroveTo call met (IsSentInPart call)))
Leaves _ call = call.devices_now ≡ call.devices

-- Where the sink tells, and what it took begins as the line of a certificate that is certified does, it is certified, whatever the call
-- ends with.
abbrev pub CertifiedWhereWritten : Call → Type 0
CertifiedWhereWritten call = (held behind : List ℕ) → call.old ≡ Some held → call.new ≡ Some (held ++ (certified_word ++ behind)) → IsCertified call

-- ---- status by status

-- Where the walk over told files comes to a work that is done with Done, the call ends so, unless it stops.
abbrev pub DoneAlways : Call → Type 0
DoneAlways call = (work : Work) (text : List ℕ) → EndsSo Tells call (WorkAt work) → Makes call.devices work text Done → EndsWith call Done

-- Over files that agree with what the shelf tells, the walk comes to a work whose answer is no, and the sink took its text.
pub record AnswersNo (call : Call) : Type 0 where
  pub work : Work
  pub text : List ℕ
  pub ends : EndsSo Agrees call (WorkAt work)
  pub makes : Makes call.devices work text No
  pub sent : call.new ≡ appended call.old text

-- No comes exactly where the certificate is refused by its verdict, or the run of the script meets something
pub record NoExactly (call : Call) : Type 0 where
  pub only : call.result ≡ No → AnswersNo call
  pub always : (work : Work) (text : List ℕ) → EndsSo Tells call (WorkAt work) → Makes call.devices work text No → EndsWith call No

-- The words are none of the forms, and the sink took the line that says so.
pub record SaysNoForm (call : Call) : Type 0 where
  pub none : AreNoForm call.words
  pub sent : call.new ≡ appended call.old words_line

-- BadWords comes exactly where the words are none of the forms, which is printed
pub record BadWordsExactly (call : Call) : Type 0 where
  pub only : call.result ≡ BadWords → SaysNoForm call
  pub always : AreNoForm call.words → EndsWith call BadWords

-- the walk is given these bytes, of that kind and name
abbrev pub Gives : (See : Sight) (call : Call) (kind : Kind) (name bytes : List ℕ) → Type 0
Gives See call kind name bytes = IsGiven (program call.devices) See call.told (plan_of call.devices call.words) kind name bytes

-- Over files that agree with what the shelf tells, the walk comes to a file of that kind that is within its limit and has a fault, and
-- the sink took the line of its first one.
pub record FindsFault (kind : Kind) (call : Call) : Type 0 where
  pub name : List ℕ
  pub bytes : List ℕ
  pub given : Gives Agrees call kind name bytes
  pub short : length bytes ≤ limit_of kind
  pub line : List ℕ
  pub refuses : Refuses kind bytes line
  pub sent : call.new ≡ appended call.old line

-- BadMachine comes exactly where the walk comes to a machine file that fails a test; the first one is printed
pub record BadMachineExactly (call : Call) : Type 0 where
  pub only : call.result ≡ BadMachine → FindsFault MachineFile call
  pub always : (name bytes : List ℕ) (error : MachError) → Gives Tells call MachineFile name bytes → length bytes ≤ machine_limit
      → machine_of bytes ≡ Err error → EndsWith call BadMachine

-- BadSource comes exactly where the walk comes to a source that has a faulty card, whose number and fault are printed
pub record BadSourceExactly (call : Call) : Type 0 where
  pub only : call.result ≡ BadSource → (machine : Machine) × FindsFault (Source machine) call
  pub always : (machine : Machine) (name bytes : List ℕ) (error : SourceError) → Gives Tells call (Source machine) name bytes
      → length bytes ≤ source_limit → IsFaulty bytes error → EndsWith call BadSource

-- BadCert comes exactly where the walk comes to a certificate that has a faulty line, whose number and fault are printed
pub record BadCertExactly (call : Call) : Type 0 where
  pub only : call.result ≡ BadCert → (machine : Machine) × FindsFault (Certificate machine) call
  pub always : (machine : Machine) (name bytes : List ℕ) (line : ℕ) (kind : CertKind) → Gives Tells call (Certificate machine) name bytes
      → length bytes ≤ certificate_limit → IsFaultyCert machine.ports bytes line kind → EndsWith call BadCert

-- BadText comes exactly where the walk comes to a bench script that has a faulty line, whose number and fault are printed
pub record BadTextExactly (call : Call) : Type 0 where
  pub only : call.result ≡ BadText → (machine : Machine) × FindsFault (Script machine) call
  pub always : (machine : Machine) (name bytes : List ℕ) (line : ℕ) (kind : ScriptKind) → Gives Tells call (Script machine) name bytes
      → length bytes ≤ script_limit → IsFaultyScript machine bytes line kind → EndsWith call BadText
