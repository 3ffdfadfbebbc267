-- What `bench_main` promises of each call, clause by clause.
use Rattle.std.specs.Prelude.{◌≡◌, ℕ, List}
use Rattle.ags_outside.specs.Count.{Rose}
use Rattle.ags_plan.specs.Answer.{IsAnswer, TellsFiles}
use Rattle.ags_plan.specs.Outcome.{AbsentExactly, Ends, EndsExactly, IsCleanOnShelf, IsCleanOnSink, LongExactly}
use Rattle.ags_program.specs.declared.status.Status.{Status}
use Rattle.ags_program.specs.declared.status.Status.TheVariants.{AbsentFile, ReadFault, WriteFault}
use Rattle.ags_bench.specs.Outcome.{Call, BadCertExactly, BadMachineExactly, BadSourceExactly, BadTextExactly, BadWordsExactly, CertifiedWhereWritten, DoneAlways, Leaves, NoExactly}
use Rattle.ags_bench.specs.Program.{plan_of, program}

-- The counts of a call: the shelf's of its faults and of absent files, and the sink's of its faults, each before and after it.
pub record Counts : Type 0 where
  pub faults : ℕ
  pub faults_now : ℕ
  pub absences : ℕ
  pub absences_now : ℕ
  pub sink_faults : ℕ
  pub sink_faults_now : ℕ

pub record Promises (call : Call) (counts : Counts) : Type 0 where
  -- Over every shelf, sink and list of devices: the status and the bytes are those of an answer to the words, to files that agree with
  -- what the shelf tells, and to the devices; or a file couldn't be read, and nothing was written; or the output couldn't be, or
  -- memory ran out, and the bytes are a prefix of such a text.
  pub content : Ends (program call.devices) (IsAnswer (program call.devices) call.told (plan_of call.devices call.words)) call.old call.new call.result
  -- Where the shelf tells all files that are fetched, there is one answer at most, and the status and the bytes are its.
  pub exactly : TellsFiles (program call.devices) call.told (plan_of call.devices call.words) → (text : List ℕ) (status : Status)
      → IsAnswer (program call.devices) call.told (plan_of call.devices call.words) text status
      → EndsExactly (program call.devices) call.old call.new call.result text status
  -- The headline: how far the script was driven, which is only where the certificate is certified and every run is safe; that the run is
  -- one of it by declared events; and with which devices the call leaves, by its status.
  pub leaves : Leaves call.result call
  -- Wherever it wrote that it is certified, that is so, even where the output stops there.
  pub certified_line : CertifiedWhereWritten call
  -- Status by status.
  pub done : DoneAlways call
  pub no : NoExactly call
  pub bad_words : BadWordsExactly call
  pub bad_machine : BadMachineExactly call
  pub bad_source : BadSourceExactly call
  pub bad_cert : BadCertExactly call
  pub bad_text : BadTextExactly call
  pub absent : AbsentExactly (program call.devices) call.told (plan_of call.devices call.words) call.old call.new call.result
  pub absent_cause : call.result ≡ AbsentFile → Rose counts.absences counts.absences_now
  pub long : LongExactly (program call.devices) call.told (plan_of call.devices call.words) call.old call.new call.result
  pub read_fault : call.result ≡ ReadFault → Rose counts.faults counts.faults_now
  pub write_fault : call.result ≡ WriteFault → Rose counts.sink_faults counts.sink_faults_now
  -- No other status hides a fault or an absent file: where one came, and the run didn't end with it, an absent file is
  -- where the walk ends all the same.
  pub clean_shelf : IsCleanOnShelf (program call.devices) call.told (plan_of call.devices call.words) call.old call.new call.result
      (counts.faults_now ≡ counts.faults) (counts.absences_now ≡ counts.absences)
  pub clean_sink : IsCleanOnSink (program call.devices) call.result (counts.sink_faults_now ≡ counts.sink_faults)
