-- What `ags_main` promises, from what a run of any program comes to.
use Rattle.std.proofs.Common.{ap}
use Rattle.ags_command.specs.declared.source_texts.SourceText.TheVariants.{Listing, Tape, CrossReference}
use Rattle.ags_plan.specs.Answer.{IsAnswer}
use Rattle.ags_plan.specs.Outcome.{CountsOnShelf, CountsOnSink, Ends}
use Rattle.ags_plan.proofs.StatusLemmas.{absent_exactly, long_exactly, ends_exactly}
use Rattle.ags_program.specs.Program.{plan_of, program}
use Rattle.ags_program.specs.Status.{cause_of}
use Rattle.ags_top.specs.Outcome.{Call}
use Rattle.ags_top.specs.ProgramLaws.{lawful_program}
use Rattle.ags_top.specs.Promises.{Counts, Promises}
use Rattle.ags_top.proofs.CertifiedLineLemmas.{safe_where_certified_is_written}
use Rattle.ags_top.proofs.MainLemmas.{edits_to_what_is_safe, judges_edits, judges_scales, keeps_declared_scales, writes_what_is_defined, compares_what_is_defined, equals_what_is_defined, judges_what_is_defined, certifies_what_is_safe, certifies_accepted, certifies_workload, judges_workload, bad_cert_exactly, plays_what_is_defined, guards_what_is_defined, plays_what_is_declared, done_always, no_exactly, bad_words_exactly, bad_machine_exactly, bad_source_exactly, bad_text_exactly, bounds_order_time, judges_budget}

pub promises : (call : Call) (counts : Counts) → Ends program (IsAnswer program call.told (plan_of call.arguments)) call.old call.new call.result
    → CountsOnShelf program call.told (plan_of call.arguments) call.old call.new call.result counts.faults counts.faults_now counts.absences counts.absences_now
    → CountsOnSink program call.result counts.sink_faults counts.sink_faults_now → Promises call counts
promises call counts ends shelf sink = record {
  content = ends;
  exactly = ends_exactly program plan_of lawful_program call.told call.arguments call.old call.new call.result ends;
  certified = certifies_what_is_safe call ends;
  judged = judges_what_is_defined call ends;
  listed = writes_what_is_defined call ends Listing;
  taped = writes_what_is_defined call ends Tape;
  cross_referenced = writes_what_is_defined call ends CrossReference;
  compared = compares_what_is_defined call ends;
  equal = equals_what_is_defined call ends;
  played = plays_what_is_defined call ends;
  guarded = guards_what_is_defined call ends;
  actual = plays_what_is_declared call ends;
  certified_line = safe_where_certified_is_written call ends;
  workload = certifies_workload call ends;
  workload_judged = judges_workload call ends;
  order_time = bounds_order_time call ends;
  budget_judged = judges_budget call ends;
  scales = keeps_declared_scales call ends;
  scales_judged = judges_scales call ends;
  edited = edits_to_what_is_safe call ends;
  edits_judged = judges_edits call ends;
  accepted = certifies_accepted call ends;
  done = done_always call ends;
  no = no_exactly call ends;
  bad_words = bad_words_exactly call ends;
  bad_machine = bad_machine_exactly call ends;
  bad_source = bad_source_exactly call ends;
  bad_cert = bad_cert_exactly call ends;
  bad_text = bad_text_exactly call ends;
  absent = absent_exactly program plan_of lawful_program call.told call.arguments call.old call.new call.result ends;
  absent_cause = λ is. shelf.absent_cause (ap cause_of is);
  long = long_exactly program plan_of lawful_program call.told call.arguments call.old call.new call.result ends;
  read_fault = λ is. shelf.read_fault (ap cause_of is);
  write_fault = λ is. sink.write_fault (ap cause_of is);
  clean_shelf = shelf.clean;
  clean_sink = sink.clean;
}
