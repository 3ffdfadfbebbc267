-- The commands that read a third file after a source and a certificate: the verdict of the certificate, and what stands with it.
use Rattle.std.specs.Prelude.{◌≡◌, ℕ, List, ◌++◌, length, Option}
use Rattle.ags_asm.specs.Source.{CardWords, Defines, placed_words}
use Rattle.ags_cert.specs.Cert.{Stated, certificate_of}
use Rattle.ags_cert.specs.Text.{IsCertOf}
use Rattle.ags_command.specs.Command.{Command, Guard, Budget, Scales, Edits}
use Rattle.ags_domain.specs.Value.{value_meaning}
use Rattle.ags_image.specs.Image.{IsImageOf}
use Rattle.ags_plan.specs.Plan.{Plan, Do, Read}
use Rattle.ags_ports.specs.Machine.{IsMachine}
use Rattle.ags_ports.specs.declared.machines.Machine.{Machine}
use Rattle.ags_program.specs.declared.status.Status.{Status}
use Rattle.ags_program.specs.Files.{Kind, Script, Times, ScaleTags, EditList, Value, Holds}
use Rattle.ags_program.specs.Program.{program, pair_plan}
use Rattle.ags_program.specs.Text.{verdict_line}
use Rattle.ags_program.specs.Work.{Sequel, JudgePair, PlayBehind, BudgetBehind, ScalesBehind, EditsBehind, IsJudgementOf}
use Rattle.ags_safe.specs.Accepted.{Accepted}
use Rattle.ags_safe.specs.Safe.{Safe}
use Rattle.ags_verdict.specs.Verdict.{IsVerdict}
use Rattle.ags_verdict.specs.declared.verdicts.Verdict.TheVariants.{Certified}

-- A third file: the command of a source, a certificate and such a file, by their names; its kind, for a machine and a certificate of so
-- many rows; and what stands with the verdict, by what it holds.
pub record ThirdFile : Type 0 where
  pub command : (source certificate third : List ℕ) → Command
  pub kind : Machine → (rows : ℕ) → Kind
  pub sequel : (machine : Machine) (rows : ℕ) → Value (kind machine rows) → Sequel

-- a script, whose play has the certificate as its guard
abbrev pub guarded_script : ThirdFile
guarded_script = record {
  command = λ source certificate script. Guard source script certificate;
  kind = λ machine rows. Script machine;
  sequel = λ machine rows commands. PlayBehind commands;
}

-- a text of times
abbrev pub text_of_times : ThirdFile
text_of_times = record { command = Budget; kind = λ machine rows. Times rows; sequel = λ machine rows bounds. BudgetBehind bounds }

-- a text of scales
abbrev pub text_of_scales : ThirdFile
text_of_scales = record { command = Scales; kind = ScaleTags; sequel = λ machine rows declared. ScalesBehind declared }

-- a text of edits
abbrev pub text_of_edits : ThirdFile
text_of_edits = record { command = Edits; kind = λ machine rows. EditList; sequel = λ machine rows made. EditsBehind made }

-- what a command reads, in this order, and does, on a machine, where it reads such a file
abbrev pub third_plan : ThirdFile → Machine → (source certificate third : List ℕ) → Plan program
third_plan file machine source certificate third =
    pair_plan machine source certificate
    (λ pair. Read (file.kind pair.machine (length pair.cert.rows)) third
    (λ value. Do (JudgePair pair (file.sequel pair.machine (length pair.cert.rows) value))))

-- The source defines words, the certificate is one for the machine's registers, the third file holds this value for the machine and the
-- certificate's rows, and this is the text and the status of the verdict and of what stands with it.
pub record IsJudgedWith (file : ThirdFile) (machine : Machine) (source certificate third text : List ℕ) (status : Status) : Type 0 where
  pub defined : CardWords
  pub defines : Defines machine.codes source defined
  pub cert : Stated
  pub is_cert : IsCertOf machine.ports certificate cert
  pub value : Value (file.kind machine (length cert.rows))
  pub holds : Holds (file.kind machine (length cert.rows)) third value
  pub judgement : IsJudgementOf (record { machine = machine; assembly = record { bytes = source; defined = defined }; cert = cert })
      (file.sequel machine (length cert.rows) value) text status

-- The machine's tables are valid. The source defines words, the certificate is one for the machine's registers, and the third file holds
-- this value for the machine and the certificate's rows. The certificate is accepted for the image of exactly these words, so that every
-- run is safe, over every list of events that it declares; and in each such run the value is kept. The text says that the certificate is
-- certified, with the numbers of its rows and of its cases, which is its verdict, and after it that line of the value.
pub record IsKeptWith (file : ThirdFile)
    (Keeps : (machine : Machine) (image : List (Option ℕ)) (cert : Stated) → Value (file.kind machine (length cert.rows)) → Type 0)
    (IsLine : (machine : Machine) (cert : Stated) → Value (file.kind machine (length cert.rows)) → (cases : ℕ) (line : List ℕ) → Type 0)
    (machine : Machine) (source certificate third text : List ℕ) : Type 0 where
  pub valid : IsMachine machine
  pub defined : CardWords
  pub defines : Defines machine.codes source defined
  pub image : List (Option ℕ)
  pub image_is : IsImageOf (placed_words defined) image
  pub cert : Stated
  pub is_cert : IsCertOf machine.ports certificate cert
  pub value : Value (file.kind machine (length cert.rows))
  pub holds : Holds (file.kind machine (length cert.rows)) third value
  pub accepted : Accepted value_meaning machine image (certificate_of cert)
  pub safe : Safe value_meaning machine image (certificate_of cert)
  pub kept : Keeps machine image cert value
  pub cases : ℕ
  pub verdict : IsVerdict value_meaning machine image (certificate_of cert) (Certified (length cert.rows) cases)
  pub line : List ℕ
  pub line_is : IsLine machine cert value cases line
  pub text_is : text ≡ verdict_line (Certified (length cert.rows) cases) ++ line
