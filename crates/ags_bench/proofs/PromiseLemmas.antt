-- What `bench_main` promises, from what loading or the work came to.
use Rattle.std.proofs.Common.{◌≡◌, [], refl, sym, ap, subst}
use Rattle.std.specs.Prelude.{Result}
use Rattle.ags_outside.specs.Count.{HasCause}
use Rattle.ags_outside.specs.declared.sending.SendError.{SendError}
use Rattle.ags_outside.specs.Send.{is_write_fault}
use Rattle.ags_plan.specs.Answer.{IsAnswer}
use Rattle.ags_plan.specs.Outcome.{CountsOnShelf, CountsOnSink, Ends}
use Rattle.ags_plan.specs.Plan.{WorkAt}
use Rattle.ags_plan.specs.Saying.{Says, SaysEarly, settled}
use Rattle.ags_plan.specs.Walk.{Agrees, EndsAt}
use Rattle.ags_plan.proofs.RunLemmas.{said_ends, content_on_shelf, said_on_sink}
use Rattle.ags_plan.proofs.StatusLemmas.{absent_exactly, long_exactly, ends_exactly}
use Rattle.ags_program.specs.declared.status.Status.{Status}
use Rattle.ags_bench.specs.Doing.{Does}
use Rattle.ags_bench.specs.Outcome.{Call, EndsSo, Leaves}
use Rattle.ags_bench.specs.Program.{program, plan_of}
use Rattle.ags_bench.specs.ProgramLaws.{lawful_program}
use Rattle.ags_bench.specs.Promises.{Counts, Promises}
use Rattle.ags_program.specs.Status.{cause_of}
use Rattle.ags_bench.specs.Work.{Work, NoForm, DrivePair}
use Rattle.ags_bench.proofs.CertifiedLineLemmas.{certified_where_written}
use Rattle.ags_bench.proofs.EarlyLemmas.{early_ends, early_leaves}
use Rattle.ags_bench.proofs.LeavesLemmas.{leaves, says}
use Rattle.ags_bench.proofs.NoFormLemmas.{no_form_leaves}
use Rattle.ags_bench.proofs.OverLemmas.{counts_over, ends_over}
use Rattle.ags_bench.proofs.StatusLemmas.{done_always, no_exactly, bad_words_exactly, bad_machine_exactly, bad_source_exactly, bad_cert_exactly, bad_text_exactly}

module _ (call : Call) (counts : Counts) where
  abbrev IsEnd : Type 0
  IsEnd = Ends (program call.devices) (IsAnswer (program call.devices) call.told (plan_of call.devices call.words)) call.old call.new call.result

  abbrev IsCountedOnShelf : Type 0
  IsCountedOnShelf = CountsOnShelf (program call.devices) call.told (plan_of call.devices call.words) call.old call.new call.result counts.faults counts.faults_now counts.absences counts.absences_now

  abbrev IsCountedOnSink : Type 0
  IsCountedOnSink = CountsOnSink (program call.devices) call.result counts.sink_faults counts.sink_faults_now

  promises : IsEnd → IsCountedOnShelf → IsCountedOnSink → Leaves call.result call → Promises call counts
  promises ends shelf sink left = record {
    content = ends;
    exactly = ends_exactly (program call.devices) (plan_of call.devices) (lawful_program call.devices) call.told call.words call.old call.new call.result ends;
    leaves = left;
    certified_line = certified_where_written call ends;
    done = done_always call ends;
    no = no_exactly call ends;
    bad_words = bad_words_exactly call ends;
    bad_machine = bad_machine_exactly call ends;
    bad_source = bad_source_exactly call ends;
    bad_cert = bad_cert_exactly call ends;
    bad_text = bad_text_exactly call ends;
    absent = absent_exactly (program call.devices) (plan_of call.devices) (lawful_program call.devices) call.told call.words call.old call.new call.result ends;
    absent_cause = λ is. shelf.absent_cause (ap cause_of is);
    long = long_exactly (program call.devices) (plan_of call.devices) (lawful_program call.devices) call.told call.words call.old call.new call.result ends;
    read_fault = λ is. shelf.read_fault (ap cause_of is);
    write_fault = λ is. sink.write_fault (ap cause_of is);
    clean_shelf = shelf.clean;
    clean_sink = sink.clean;
  }

  -- the files weren't loaded
  pub promises_early : call.devices_now ≡ call.devices → SaysEarly (program []) call.told (plan_of [] call.words) call.old call.new call.result
      → CountsOnShelf (program []) call.told (plan_of [] call.words) call.old call.new call.result counts.faults counts.faults_now counts.absences counts.absences_now
      → CountsOnSink (program []) call.result counts.sink_faults counts.sink_faults_now → Promises call counts
  promises_early stayed early shelf sink =
      promises (early_ends call early)
      (counts_over [] call.devices call.told call.words call.old call.new call.result counts.faults counts.faults_now counts.absences counts.absences_now shelf)
      (record { write_fault = sink.write_fault; clean = sink.clean })
      (early_leaves call stayed early)

  -- ---- a work was done

  module _ (ended : Result Status SendError) (is : call.result ≡ settled (program []) ended) (faults : counts.faults_now ≡ counts.faults) (absences : counts.absences_now ≡ counts.absences)
      (sink : HasCause counts.sink_faults counts.sink_faults_now (is_write_fault ended)) where
    promises_said : (work : Work) → EndsSo Agrees call (WorkAt work) → Says (program call.devices) (WorkAt work) call.old call.new ended
        → Leaves (settled (program []) ended) call → Promises call counts
    promises_said work ends say left =
        promises
        (subst (λ (s : Status). Ends (program call.devices) (IsAnswer (program call.devices) call.told (plan_of call.devices call.words)) call.old call.new s) (sym is)
        (said_ends (program call.devices) (plan_of call.devices) (lawful_program call.devices) call.told call.words (WorkAt work) call.old call.new ended ends say))
        (subst (λ (s : Status). CountsOnShelf (program call.devices) call.told (plan_of call.devices call.words) call.old call.new s counts.faults counts.faults_now counts.absences counts.absences_now) (sym is)
        (content_on_shelf (program call.devices) (plan_of call.devices) (lawful_program call.devices) call.told call.words (WorkAt work) call.old call.new ended
        counts.faults counts.faults_now counts.absences counts.absences_now refl ends say faults absences))
        (subst (λ (s : Status). CountsOnSink (program call.devices) s counts.sink_faults counts.sink_faults_now) (sym is)
        (said_on_sink (program call.devices) (plan_of call.devices) (lawful_program call.devices) call.told call.words (WorkAt work) call.old call.new ended
        counts.sink_faults counts.sink_faults_now ends say sink))
        (subst (λ (s : Status). Leaves s call) (sym is) left)

    promises_of : (work : Work) → EndsSo Agrees call (WorkAt work) → Does work call.devices call.old call.new call.devices_now ended → Promises call counts
    promises_of NoForm ends (say, stayed) = promises_said NoForm ends say (no_form_leaves call ended ends say stayed)
    promises_of (DrivePair pair lines) ends does =
        promises_said (DrivePair pair lines) ends (says call pair lines ends does.image does.image_is does.verdict ended does.is_verdict does.benches)
        (leaves call pair lines ends does.image does.image_is does.verdict ended does.is_verdict does.benches)

    pub promises_done : (work : Work) → EndsAt (program []) Agrees call.told (plan_of [] call.words) (WorkAt work) → Does work call.devices call.old call.new call.devices_now ended → Promises call counts
    promises_done work ends does = promises_of work (ends_over [] call.devices Agrees call.told call.words (WorkAt work) ends) does
