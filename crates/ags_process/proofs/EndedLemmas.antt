-- What the program ends with, by what its one call says.
use Rattle.std.proofs.Common.{◌≡◌, ℕ, ◌<◌, ◌≤◌, ◌^◌, Bool, true, false, List, Option, None, Result, Ok, Err, refl, ap, subst, ◌∙◌, inl, inr, arith}
use Rattle.std.specs.Prelude.{IfOk, IfErr}
use Rattle.ags_outside.specs.Count.{Rose}
use Rattle.ags_outside.specs.Sink.{front_of_wrote, wrote_nothing}
use Rattle.ags_outside.specs.ToldFile.{Untold}
use Rattle.ags_plan.specs.Answer.{IsAnswer}
use Rattle.ags_plan.specs.Outcome.{Ends, IsCleanOnSink, TookPrefix}
use Rattle.ags_plan.specs.Walk.{Told}
use Rattle.ags_program.specs.declared.status.Status.{Status}
use Rattle.ags_program.specs.declared.status.Status.TheVariants.{ReadFault, WriteFault, NoMemory}
use Rattle.ags_program.specs.Program.{plan_of, program}
use Rattle.ags_program.specs.Status.{number_of}
use Rattle.ags_process.specs.Ended.{EndsFor, ExitsFor, OnSink}

-- a run's end over files of which nothing is told
pub ends_for : (arguments : List (List ℕ)) (old new : Option (List ℕ)) (status : Status) → Ends program (IsAnswer program (λ _. Untold) (plan_of arguments)) old new status → EndsFor arguments status
ends_for arguments old new ReadFault ends = inr tt
ends_for arguments old new WriteFault ends = inr tt
ends_for arguments old new NoMemory ends = inr tt
ends_for arguments old new _ ends = inl (ends.text, ends.answer)

-- and the same where the output after it was written, or wasn't
pub ended_for : (arguments : List (List ℕ)) (old new : Option (List ℕ)) (status ended : Status) (written : Bool) → Ends program (IsAnswer program (λ _. Untold) (plan_of arguments)) old new status
    → (written ≡ true → ended ≡ status) → (written ≡ false → ended ≡ WriteFault) → EndsFor arguments ended
ended_for arguments old new status ended true ends done fault = rw (done refl) (ends_for arguments old new status ends)
ended_for arguments old new status ended false ends done fault = rw (fault refl) (inr tt)

-- what a run comes to that sends nothing, for want of memory
pub stopped_at_once : (told : Told) (arguments : List (List ℕ)) (old : Option (List ℕ))
    → ((text : List ℕ) × (status : Status) × IsAnswer program told (plan_of arguments) text status)
    → TookPrefix (IsAnswer program told (plan_of arguments)) old old
stopped_at_once told arguments old (text, status, answer) = record {
  status = status;
  text = text;
  answer = answer;
  prefix = front_of_wrote (wrote_nothing old text);
}

-- a count of 64 bits that rose, and fell no more, rose in all
pub rose_kept : (faults mid now : ℕ) → Rose faults mid → mid ≤ now → now < 2 ^ 64 → Rose faults now
rose_kept faults mid now (inl more) stays counted = inl (omega (arith, more, stays))
rose_kept faults mid now (inr last) stays counted = inr (omega (arith, last, stays, counted))

-- where the output isn't written at the end, the count of faults rose over the run and its end
pub unwritten_rose : (status : Status) (faults mid now : ℕ) → (status ≡ WriteFault → Rose faults mid) → IsCleanOnSink program status (mid ≡ faults)
    → mid ≤ now → now < 2 ^ 64 → Rose mid now → Rose faults now
unwritten_rose WriteFault faults mid now fault clean stays counted rose = rose_kept faults mid now (fault refl) stays counted
unwritten_rose _ faults mid now fault clean stays counted rose = subst (λ (n : ℕ). Rose n now) clean rose

-- what a process exits with where a sink was there, by what its run comes to
pub exits_for : (arguments : List (List ℕ)) (status ended : Status) (written : Bool)
    → Ends program (IsAnswer program (λ _. Untold) (plan_of arguments)) None None status
    → (written ≡ true → ended ≡ status) → (written ≡ false → ended ≡ WriteFault) → ExitsFor arguments (number_of ended)
exits_for arguments status ended written ends done fault =
    (ended, ended_for arguments None None status ended written ends done fault, refl)

-- and where there was no memory for one
pub exits_without_sink : (arguments : List (List ℕ)) (status ended : Status) (written : Bool) → status ≡ NoMemory
    → (written ≡ true → ended ≡ status) → (written ≡ false → ended ≡ WriteFault) → ExitsFor arguments (number_of ended)
exits_without_sink arguments status ended true is done fault = (ended, rw (done refl ∙ is) (inr tt), refl)
exits_without_sink arguments status ended false is done fault = (ended, rw (fault refl) (inr tt), refl)

-- both together, over the arguments and the sink as they were handed over
pub exits_of : {A E K F : Type 0} (texts_of : A → List (List ℕ)) (arguments : Result A E) (old new : Result K F) (status ended : Status) (written : Bool) (number : ℕ)
    → IfOk arguments (λ all. OnSink old new (λ before after. Ends program (IsAnswer program (λ _. Untold) (plan_of (texts_of all))) None None status))
    → IfOk arguments (λ all. IfErr old (λ error. status ≡ NoMemory))
    → (written ≡ true → ended ≡ status) → (written ≡ false → ended ≡ WriteFault) → number ≡ number_of ended
    → IfOk arguments (λ all. ExitsFor (texts_of all) number)
exits_of texts_of (Err error) old new status ended written number ran none done fault is = tt
exits_of texts_of (Ok all) (Ok before) (Ok after) status ended written number ran none done fault is =
    rw is (exits_for (texts_of all) status ended written ran done fault)
exits_of texts_of (Ok all) (Ok before) (Err error) status ended written number ran none done fault is = absurd ran
exits_of texts_of (Ok all) (Err error) new status ended written number ran none done fault is =
    rw is (exits_without_sink (texts_of all) status ended written none done fault)

-- the number of a run that couldn't be begun, by why there were no arguments
pub number_unbegun : {A E : Type 0} (P Q : Type 0) (Cause : E → Type 0) (arguments : Result A E) (status told ended : Status) (written : Bool) (number : ℕ)
    → IfErr arguments (λ error. Cause error → status ≡ told) → IfErr arguments (λ error. P × Q × (written ≡ true))
    → (written ≡ true → ended ≡ status) → number ≡ number_of ended
    → IfErr arguments (λ error. Cause error → number ≡ number_of told)
number_unbegun P Q Cause (Ok all) status told ended written number said unbegun done is = tt
number_unbegun P Q Cause (Err error) status told ended written number said unbegun done is =
    λ cause. is ∙ ap number_of (done unbegun.2 ∙ said cause)
