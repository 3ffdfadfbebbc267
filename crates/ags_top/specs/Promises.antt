-- What `ags_main` promises of each call, clause by clause.
use Rattle.std.specs.Prelude.{◌≡◌, ℕ, List}
use Rattle.ags_command.specs.declared.source_texts.SourceText.TheVariants.{Listing, Tape, CrossReference}
use Rattle.ags_outside.specs.Count.{Rose}
use Rattle.ags_plan.specs.Answer.{IsAnswer, TellsFiles}
use Rattle.ags_plan.specs.Outcome.{AbsentExactly, Ends, EndsExactly, IsCleanOnShelf, IsCleanOnSink, LongExactly}
use Rattle.ags_program.specs.declared.status.Status.{Status}
use Rattle.ags_program.specs.declared.status.Status.TheVariants.{AbsentFile, ReadFault, WriteFault}
use Rattle.ags_program.specs.Program.{plan_of, program}
use Rattle.ags_top.specs.Outcome.{Call, BadCertExactly, BadMachineExactly, BadSourceExactly, BadTextExactly, BadWordsExactly, BoundsOrderTime, CertifiesAccepted, CertifiesWhatIsSafe, CertifiesWorkload, ComparesWhatIsDefined, DoneAlways, EditsToWhatIsSafe, EqualsWhatIsDefined, GuardsWhatIsDefined, JudgesBudget, JudgesEdits, JudgesScales, JudgesWhatIsDefined, JudgesWorkload, KeepsDeclaredScales, NoExactly, PlaysWhatIsDeclared, PlaysWhatIsDefined, SafeWhereCertifiedIsWritten, WritesWhatIsDefined}

-- The counts of a call: the shelf's of its faults and of absent files, and the sink's of its faults, each before and after it.
pub record Counts : Type 0 where
  pub faults : ℕ
  pub faults_now : ℕ
  pub absences : ℕ
  pub absences_now : ℕ
  pub sink_faults : ℕ
  pub sink_faults_now : ℕ

pub record Promises (call : Call) (counts : Counts) : Type 0 where
  -- Over every shelf and sink: the status and the bytes are those of an answer to the arguments and to files that agree
  -- with what the shelf tells; or a file couldn't be read, and nothing was written; or the output couldn't be, or memory
  -- ran out, and the bytes are a prefix of such a text.
  pub content : Ends program (IsAnswer program call.told (plan_of call.arguments)) call.old call.new call.result
  -- Where the shelf tells all files that are fetched, there is one answer at most, and the status and the bytes are its.
  pub exactly : TellsFiles program call.told (plan_of call.arguments) → (text : List ℕ) (status : Status)
      → IsAnswer program call.told (plan_of call.arguments) text status → EndsExactly program call.old call.new call.result text status
  -- The headline: where it answers certified, what is printed is what the source defines, and every run of it is safe. What is
  -- written of a source is what it defines, a listing is said to be equal only where its words are those, and what is shown is
  -- a play of the script on them. What is shown under a guard is shown of an actual run that is safe: one of a certificate that
  -- is accepted for those words; and wherever `guard` wrote that it is certified, that is so, even where the output stops there.
  -- What is said of a workload is said of its two texts, and where it is done every run of its words is safe. What is said of bounds on
  -- order time is what comes of them, and where `budget` is done they are kept in every run; and so of scales, where `scales` is done.
  -- What is said of edits is what a check from nothing tells of what stands after each, and where `edits` is done every run of what
  -- stands after the last is safe.
  pub certified : CertifiesWhatIsSafe call
  pub judged : JudgesWhatIsDefined call
  pub listed : WritesWhatIsDefined Listing call
  pub taped : WritesWhatIsDefined Tape call
  pub cross_referenced : WritesWhatIsDefined CrossReference call
  pub compared : ComparesWhatIsDefined call
  pub equal : EqualsWhatIsDefined call
  pub played : PlaysWhatIsDefined call
  pub guarded : GuardsWhatIsDefined call
  pub actual : PlaysWhatIsDeclared call
  pub certified_line : SafeWhereCertifiedIsWritten call
  pub workload : CertifiesWorkload call
  pub workload_judged : JudgesWorkload call
  pub order_time : BoundsOrderTime call
  pub budget_judged : JudgesBudget call
  pub scales : KeepsDeclaredScales call
  pub scales_judged : JudgesScales call
  pub edited : EditsToWhatIsSafe call
  pub edits_judged : JudgesEdits call
  -- Good files are answered, and an accepted certificate is certified.
  pub accepted : CertifiesAccepted call
  pub done : DoneAlways call
  -- Status by status.
  pub no : NoExactly call
  pub bad_words : BadWordsExactly call
  pub bad_machine : BadMachineExactly call
  pub bad_source : BadSourceExactly call
  pub bad_cert : BadCertExactly call
  pub bad_text : BadTextExactly call
  pub absent : AbsentExactly program call.told (plan_of call.arguments) call.old call.new call.result
  pub absent_cause : call.result ≡ AbsentFile → Rose counts.absences counts.absences_now
  pub long : LongExactly program call.told (plan_of call.arguments) call.old call.new call.result
  pub read_fault : call.result ≡ ReadFault → Rose counts.faults counts.faults_now
  pub write_fault : call.result ≡ WriteFault → Rose counts.sink_faults counts.sink_faults_now
  -- No other status hides a fault or an absent file: where one came, and the run didn't end with it, an absent file is
  -- where the walk ends all the same.
  pub clean_shelf : IsCleanOnShelf program call.told (plan_of call.arguments) call.old call.new call.result
      (counts.faults_now ≡ counts.faults) (counts.absences_now ≡ counts.absences)
  pub clean_sink : IsCleanOnSink program call.result (counts.sink_faults_now ≡ counts.sink_faults)
