-- What a run comes to, by what its loader and its last part came to.
use Rattle.std.proofs.Common.{◌≡◌, ℕ, List, true, false, Option, Result, Ok, Err, refl, sym, ap, subst, ◌∙◌, inl, inr}
use Rattle.ags_outside.specs.declared.sending.SendError.{SendError}
use Rattle.ags_outside.specs.declared.sending.SendError.TheVariants as send
use Rattle.ags_outside.specs.Count.{HasCause}
use Rattle.ags_outside.specs.Send.{is_write_fault}
use Rattle.ags_outside.specs.Sink.{wrote_nothing, front_of_wrote, WroteFront}
use Rattle.ags_plan.specs.declared.causes.Cause.{Cause}
use Rattle.ags_plan.specs.declared.causes.Cause.TheVariants.{Content, Absence, ReadFault, WriteFault, Memory}
use Rattle.ags_plan.specs.declared.unloaded.Unloaded.{Unloaded}
use Rattle.ags_plan.specs.declared.unloaded.Unloaded.TheVariants as why
use Rattle.ags_plan.specs.Plan.{Definition, Plan, End, AbsentAt, LongAt, RefusedAt, WorkAt, absent_line}
use Rattle.ags_plan.specs.Walk.{Told, Agrees, EndsAt}
use Rattle.ags_plan.specs.Answer.{ComesWith, IsAnswer}
use Rattle.ags_plan.specs.Outcome.{TookPrefix, EndsBy, Ends, CountsOnShelf, CountsOnSink}
use Rattle.ags_plan.specs.Lawful.{IsLawful}
use Rattle.ags_plan.specs.Loading.{Loads, end_of, is_absence, is_read_fault}
use Rattle.ags_plan.specs.Saying.{Says, SaysWhy, SaysEarly, settled}
use Rattle.ags_plan.proofs.WalkLemmas.{some_end, way_to_refused}
use Rattle.ags_plan.proofs.AnswerLemmas.{some_text}

-- what the status of an end comes of
abbrev pub end_cause : {Status : Type 0} {D : Definition Status} → End D → Cause
end_cause (AbsentAt name) = Absence
end_cause _ = Content

-- what the status of a run comes of, whose answer's does of this, by what its last part came to
abbrev pub ended_cause : {Status : Type 0} → Cause → Result Status SendError → Cause
ended_cause cause (Ok status) = cause
ended_cause cause (Err send.WriteFault) = WriteFault
ended_cause cause (Err send.NoMemory) = Memory

module _ {Status : Type 0} (D : Definition Status) (plan_of : List (List ℕ) → Plan D) (lawful : IsLawful D plan_of) (told : Told) (arguments : List (List ℕ)) where
  -- the status that an end comes with comes of what the end says
  pub comes_of : (end : End D) (text : List ℕ) (status : Status) → EndsAt D Agrees told (plan_of arguments) end → ComesWith D end text status → D.cause status ≡ end_cause end
  comes_of (AbsentAt name) text status ends comes = ap D.cause comes.1 ∙ lawful.apart.absent
  comes_of (LongAt name limit) text status ends comes = ap D.cause comes.1 ∙ lawful.apart.long
  comes_of (RefusedAt line refused) text status ends comes =
      let (kind, name, bytes, given, refuses, is) = way_to_refused D told (plan_of arguments) line refused ends in
      ap D.cause comes.1 ∙ ap D.cause is ∙ lawful.apart.refused kind
  comes_of (WorkAt work) text status ends comes = lawful.apart.made work text status comes

  -- ---- where an end is said

  said_cause : (end : End D) (old new : Option (List ℕ)) (ended : Result Status SendError) → EndsAt D Agrees told (plan_of arguments) end → Says D end old new ended
      → D.cause (settled D ended) ≡ ended_cause (end_cause end) ended
  said_cause end old new (Ok status) ends says = comes_of end says.text status ends says.comes
  said_cause end old new (Err send.WriteFault) ends says = lawful.apart.write_fault
  said_cause end old new (Err send.NoMemory) ends says = lawful.apart.memory

  -- what was said in part is a prefix of an answer
  said_prefix : (end : End D) (old new : Option (List ℕ)) (error : SendError) → EndsAt D Agrees told (plan_of arguments) end → Says D end old new (Err error)
      → TookPrefix (IsAnswer D told (plan_of arguments)) old new
  said_prefix end old new error ends (inl part) =
      record { status = part.status; text = part.text; answer = record { end = end; ends = ends; comes = part.comes }; prefix = part.prefix }
  said_prefix end old new error ends (inr same) =
      let (text, status, comes) = some_text D plan_of lawful told arguments end ends in
      record { status = status; text = text; answer = record { end = end; ends = ends; comes = comes }; prefix = rw same (front_of_wrote (wrote_nothing old text)) }

  said_ends_by : (end : End D) (old new : Option (List ℕ)) (ended : Result Status SendError) → EndsAt D Agrees told (plan_of arguments) end → Says D end old new ended
      → EndsBy (ended_cause (end_cause end) ended) (IsAnswer D told (plan_of arguments)) old new (settled D ended)
  said_ends_by (AbsentAt name) old new (Ok status) ends says = record { text = says.text; answer = record { end = AbsentAt name; ends = ends; comes = says.comes }; sent = says.sent }
  said_ends_by (LongAt name limit) old new (Ok status) ends says = record { text = says.text; answer = record { end = LongAt name limit; ends = ends; comes = says.comes }; sent = says.sent }
  said_ends_by (RefusedAt line refused) old new (Ok status) ends says = record { text = says.text; answer = record { end = RefusedAt line refused; ends = ends; comes = says.comes }; sent = says.sent }
  said_ends_by (WorkAt work) old new (Ok status) ends says = record { text = says.text; answer = record { end = WorkAt work; ends = ends; comes = says.comes }; sent = says.sent }
  said_ends_by end old new (Err send.WriteFault) ends says = said_prefix end old new send.WriteFault ends says
  said_ends_by end old new (Err send.NoMemory) ends says = said_prefix end old new send.NoMemory ends says

  pub said_ends : (end : End D) (old new : Option (List ℕ)) (ended : Result Status SendError) → EndsAt D Agrees told (plan_of arguments) end → Says D end old new ended
      → Ends D (IsAnswer D told (plan_of arguments)) old new (settled D ended)
  said_ends end old new ended ends says =
      subst (λ (c : Cause). EndsBy c (IsAnswer D told (plan_of arguments)) old new (settled D ended)) (sym (said_cause end old new ended ends says)) (said_ends_by end old new ended ends says)

  -- ---- the counts, where an end is said that isn't an absent file

  -- the cause of a run that is done with what files hold
  pub content_on_shelf : (end : End D) (old new : Option (List ℕ)) (ended : Result Status SendError) (faults faults_now absences absences_now : ℕ) → end_cause end ≡ Content
      → EndsAt D Agrees told (plan_of arguments) end → Says D end old new ended → faults_now ≡ faults → absences_now ≡ absences
      → CountsOnShelf D told (plan_of arguments) old new (settled D ended) faults faults_now absences absences_now
  content_on_shelf end old new ended faults faults_now absences absences_now content ends says f a =
      let is : D.cause (settled D ended) ≡ ended_cause Content ended = said_cause end old new ended ends says ∙ ap (λ (c : Cause). ended_cause c ended) content in
      of_cause ended is
    where
      of_cause : (part : Result Status SendError) → D.cause (settled D ended) ≡ ended_cause Content part
          → CountsOnShelf D told (plan_of arguments) old new (settled D ended) faults faults_now absences absences_now
      of_cause (Ok status) is = record { absent_cause = λ other. absurd cc; read_fault = λ other. absurd cc; clean = rw is (f, a) }
      of_cause (Err send.WriteFault) is = record { absent_cause = λ other. absurd cc; read_fault = λ other. absurd cc; clean = rw is (f, inl a) }
      of_cause (Err send.NoMemory) is = record { absent_cause = λ other. absurd cc; read_fault = λ other. absurd cc; clean = rw is (f, inl a) }

  pub absence_on_shelf : (name : List ℕ) (old new : Option (List ℕ)) (ended : Result Status SendError) (faults faults_now absences absences_now : ℕ)
      → EndsAt D Agrees told (plan_of arguments) (AbsentAt name) → Says D (AbsentAt name) old new ended → faults_now ≡ faults → HasCause absences absences_now true
      → CountsOnShelf D told (plan_of arguments) old new (settled D ended) faults faults_now absences absences_now
  absence_on_shelf name old new ended faults faults_now absences absences_now ends says f a = of_cause ended says (said_cause (AbsentAt name) old new ended ends says)
    where
      stopped : (error : SendError) → Says D (AbsentAt name) old new (Err error) → WroteFront old new (absent_line name)
      stopped error (inl part) = subst (λ (t : List ℕ). WroteFront old new t) part.comes.0 part.prefix
      stopped error (inr same) = rw same (front_of_wrote (wrote_nothing old (absent_line name)))

      of_cause : (part : Result Status SendError) → Says D (AbsentAt name) old new part → D.cause (settled D ended) ≡ ended_cause Absence part
          → CountsOnShelf D told (plan_of arguments) old new (settled D ended) faults faults_now absences absences_now
      of_cause (Ok status) says is = record { absent_cause = λ same. a.cause refl; read_fault = λ other. absurd cc; clean = rw is f }
      of_cause (Err send.WriteFault) says is = record {
        absent_cause = λ other. absurd cc;
        read_fault = λ other. absurd cc;
        clean = rw is (f, inr (record { name = name; ends = ends; prefix = stopped send.WriteFault says }));
      }
      of_cause (Err send.NoMemory) says is = record {
        absent_cause = λ other. absurd cc;
        read_fault = λ other. absurd cc;
        clean = rw is (f, inr (record { name = name; ends = ends; prefix = stopped send.NoMemory says }));
      }

  pub said_on_sink : (end : End D) (old new : Option (List ℕ)) (ended : Result Status SendError) (faults faults_now : ℕ) → EndsAt D Agrees told (plan_of arguments) end
      → Says D end old new ended → HasCause faults faults_now (is_write_fault ended) → CountsOnSink D (settled D ended) faults faults_now
  said_on_sink end old new ended faults faults_now ends says counts = of_cause end ended (said_cause end old new ended ends says) counts
    where
      of_cause : (e : End D) (part : Result Status SendError) → D.cause (settled D ended) ≡ ended_cause (end_cause e) part
          → HasCause faults faults_now (is_write_fault part) → CountsOnSink D (settled D ended) faults faults_now
      of_cause (AbsentAt name) (Ok status) is counts = record { write_fault = λ other. absurd cc; clean = rw is (counts.clean refl) }
      of_cause (LongAt name limit) (Ok status) is counts = record { write_fault = λ other. absurd cc; clean = rw is (counts.clean refl) }
      of_cause (RefusedAt line refused) (Ok status) is counts = record { write_fault = λ other. absurd cc; clean = rw is (counts.clean refl) }
      of_cause (WorkAt work) (Ok status) is counts = record { write_fault = λ other. absurd cc; clean = rw is (counts.clean refl) }
      of_cause e (Err send.WriteFault) is counts = record { write_fault = λ same. counts.cause refl; clean = rw is tt }
      of_cause e (Err send.NoMemory) is counts = record { write_fault = λ other. absurd cc; clean = rw is (counts.clean refl) }

  -- ---- where the files weren't loaded

  module _ {R : Type 0} (line_of : R → List ℕ) (status_of : R → Status) where
    pub unloaded_ends : (reason : Unloaded R) (old new : Option (List ℕ)) (ended : Result Status SendError)
        → Loads D told (plan_of arguments) (Err (end_of D line_of status_of reason)) → SaysWhy D line_of status_of reason old new ended
        → Ends D (IsAnswer D told (plan_of arguments)) old new (settled D ended)
    unloaded_ends (why.Absent name) old new ended loads says = said_ends (AbsentAt name.now) old new ended loads says
    unloaded_ends (why.TooLong name limit) old new ended loads says = said_ends (LongAt name.now limit) old new ended loads says
    unloaded_ends (why.Refused refusal) old new ended loads says = said_ends (RefusedAt (line_of refusal) (status_of refusal)) old new ended loads says
    unloaded_ends why.ReadFault old new ended loads says = rw (says.0, lawful.apart.read_fault) says.1
    unloaded_ends why.NoMemory old new ended loads says =
        let (end, ends) = some_end D lawful.readable told (plan_of arguments) in
        rw says.0 (said_ends end old new (Err send.NoMemory) ends (inr says.1))

    pub unloaded_on_shelf : (T : Type 0) (reason : Unloaded R) (old new : Option (List ℕ)) (ended : Result Status SendError) (faults faults_now absences absences_now : ℕ)
        → Loads D told (plan_of arguments) (Err (end_of D line_of status_of reason)) → SaysWhy D line_of status_of reason old new ended
        → HasCause faults faults_now (is_read_fault {T = T} (Err reason)) → HasCause absences absences_now (is_absence {T = T} (Err reason))
        → CountsOnShelf D told (plan_of arguments) old new (settled D ended) faults faults_now absences absences_now
    unloaded_on_shelf T (why.Absent name) old new ended faults faults_now absences absences_now loads says f a =
        absence_on_shelf name.now old new ended faults faults_now absences absences_now loads says (f.clean refl) a
    unloaded_on_shelf T (why.TooLong name limit) old new ended faults faults_now absences absences_now loads says f a =
        content_on_shelf (LongAt name.now limit) old new ended faults faults_now absences absences_now refl loads says (f.clean refl) (a.clean refl)
    unloaded_on_shelf T (why.Refused refusal) old new ended faults faults_now absences absences_now loads says f a =
        content_on_shelf (RefusedAt (line_of refusal) (status_of refusal)) old new ended faults faults_now absences absences_now refl loads says (f.clean refl) (a.clean refl)
    unloaded_on_shelf T why.ReadFault old new ended faults faults_now absences absences_now loads says f a =
        let is : D.cause (settled D ended) ≡ ReadFault = ap (λ (e : Result Status SendError). D.cause (settled D e)) says.0 ∙ lawful.apart.read_fault in
        record { absent_cause = λ other. absurd cc; read_fault = λ same. f.cause refl; clean = rw is (a.clean refl) }
    unloaded_on_shelf T why.NoMemory old new ended faults faults_now absences absences_now loads says f a =
        let is : D.cause (settled D ended) ≡ Memory = ap (λ (e : Result Status SendError). D.cause (settled D e)) says.0 ∙ lawful.apart.memory in
        record { absent_cause = λ other. absurd cc; read_fault = λ other. absurd cc; clean = rw is (f.clean refl, inl (a.clean refl)) }

    pub unloaded_on_sink : (reason : Unloaded R) (old new : Option (List ℕ)) (ended : Result Status SendError) (faults faults_now : ℕ)
        → Loads D told (plan_of arguments) (Err (end_of D line_of status_of reason)) → SaysWhy D line_of status_of reason old new ended
        → HasCause faults faults_now (is_write_fault ended) → CountsOnSink D (settled D ended) faults faults_now
    unloaded_on_sink (why.Absent name) old new ended faults faults_now loads says counts = said_on_sink (AbsentAt name.now) old new ended faults faults_now loads says counts
    unloaded_on_sink (why.TooLong name limit) old new ended faults faults_now loads says counts = said_on_sink (LongAt name.now limit) old new ended faults faults_now loads says counts
    unloaded_on_sink (why.Refused refusal) old new ended faults faults_now loads says counts =
        said_on_sink (RefusedAt (line_of refusal) (status_of refusal)) old new ended faults faults_now loads says counts
    unloaded_on_sink why.ReadFault old new ended faults faults_now loads says counts =
        let is : D.cause (settled D ended) ≡ ReadFault = ap (λ (e : Result Status SendError). D.cause (settled D e)) says.0 ∙ lawful.apart.read_fault in
        let stays : HasCause faults faults_now false = subst (λ (e : Result Status SendError). HasCause faults faults_now (is_write_fault e)) says.0 counts in
        record { write_fault = λ other. absurd cc; clean = rw is (stays.clean refl) }
    unloaded_on_sink why.NoMemory old new ended faults faults_now loads says counts =
        let is : D.cause (settled D ended) ≡ Memory = ap (λ (e : Result Status SendError). D.cause (settled D e)) says.0 ∙ lawful.apart.memory in
        let stays : HasCause faults faults_now false = subst (λ (e : Result Status SendError). HasCause faults faults_now (is_write_fault e)) says.0 counts in
        record { write_fault = λ other. absurd cc; clean = rw is (stays.clean refl) }

    -- what is said of them is said of an end before any work
    pub unloaded_early : (reason : Unloaded R) (old new : Option (List ℕ)) (ended : Result Status SendError)
        → Loads D told (plan_of arguments) (Err (end_of D line_of status_of reason)) → SaysWhy D line_of status_of reason old new ended
        → SaysEarly D told (plan_of arguments) old new (settled D ended)
    unloaded_early (why.Absent name) old new ended loads says = inl (AbsentAt name.now, tt, loads, (ended, says, refl))
    unloaded_early (why.TooLong name limit) old new ended loads says = inl (LongAt name.now limit, tt, loads, (ended, says, refl))
    unloaded_early (why.Refused refusal) old new ended loads says = inl (RefusedAt (line_of refusal) (status_of refusal), tt, loads, (ended, says, refl))
    unloaded_early why.ReadFault old new ended loads says = inr (inl (ap (λ (e : Result Status SendError). settled D e) says.0), says.1)
    unloaded_early why.NoMemory old new ended loads says = inr (inr (ap (λ (e : Result Status SendError). settled D e) says.0), says.1)
