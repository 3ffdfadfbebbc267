-- Status by status: what each says of the files, and when it comes. After `content_decides` of `laws.rt` stand
--     absent_exactly, long_exactly, refused_exactly, work_exactly, ends_exactly
use Rattle.std.proofs.Common.{◌≡◌, ℕ, List, Option, refl, sym, ap, subst, ◌∙◌, inl, inr}
use Rattle.std.specs.Prelude.{◌⊎◌}
use Rattle.ags_outside.specs.Sink.{appended}
use Rattle.ags_plan.specs.declared.causes.Cause.{Cause}
use Rattle.ags_plan.specs.declared.causes.Cause.TheVariants.{Content, Absence, ReadFault, WriteFault, Memory}
use Rattle.ags_plan.specs.declared.causes.Stop.TheVariants as stop
use Rattle.ags_plan.specs.Plan.{Definition, Plan, End, AbsentAt, LongAt, RefusedAt, WorkAt, long_line}
use Rattle.ags_plan.specs.Walk.{Told, Agrees, Tells, EndsAt, LooksFor, HasBytes}
use Rattle.ags_plan.specs.Answer.{ComesWith, IsAnswer, TellsFiles}
use Rattle.ags_plan.specs.Outcome.{IsStopping, EndsWith, EndsExactly, Answered, EndsBy, Ends, FindsAbsence, AbsentExactly, FindsLong, LongExactly, FindsRefusal, RefusedExactly, WorkExactly}
use Rattle.ags_plan.specs.Lawful.{IsLawful}
use Rattle.ags_plan.proofs.WalkLemmas.{passes, absent_here, at_bytes_here, one_end, way_to_absent, way_to_long, way_to_refused}
use Rattle.ags_plan.proofs.AnswerLemmas.{one_answer, one_text}
use Rattle.ags_plan.proofs.RunLemmas.{end_cause, comes_of}

-- a run that ended has an answer, or it stopped
answered_or_stopped : {Status : Type 0} (cause : Cause) (Answer : List ℕ → Status → Type 0) (old new : Option (List ℕ)) (status : Status) → EndsBy cause Answer old new status
    → Answered Answer old new status ⊎ IsStopping cause
answered_or_stopped Content Answer old new status ends = inl ends
answered_or_stopped Absence Answer old new status ends = inl ends
answered_or_stopped ReadFault Answer old new status ends = inr tt
answered_or_stopped WriteFault Answer old new status ends = inr tt
answered_or_stopped Memory Answer old new status ends = inr tt

-- a run whose status comes of content, or of an absence, has an answer
answered : {Status : Type 0} (cause : Cause) (Answer : List ℕ → Status → Type 0) (old new : Option (List ℕ)) (status : Status) → (IsStopping cause → ⊥) → EndsBy cause Answer old new status
    → Answered Answer old new status
answered cause Answer old new status goes_on ends = elim (answered_or_stopped cause Answer old new status ends) [
  | inl so ↦ so
  | inr stops ↦ absurd (goes_on stops)
]

module _ {Status : Type 0} (D : Definition Status) (plan_of : List (List ℕ) → Plan D) (lawful : IsLawful D plan_of) (told : Told) (arguments : List (List ℕ))
    (old new : Option (List ℕ)) (result : Status) (ends : Ends D (IsAnswer D told (plan_of arguments)) old new result) where
  -- the answer of a run whose status comes of that
  answer_by : (cause : Cause) → D.cause result ≡ cause → (IsStopping cause → ⊥) → Answered (IsAnswer D told (plan_of arguments)) old new result
  answer_by cause is goes_on =
      answered cause (IsAnswer D told (plan_of arguments)) old new result goes_on
      (subst (λ (c : Cause). EndsBy c (IsAnswer D told (plan_of arguments)) old new result) is ends)

  -- where each end of the walk is one, the run ends with its status
  ends_with : (wanted : Status) → ((end : End D) (text : List ℕ) → EndsAt D Agrees told (plan_of arguments) end → ComesWith D end text result → result ≡ wanted)
      → EndsWith D result wanted
  ends_with wanted each = elim (answered_or_stopped (D.cause result) (IsAnswer D told (plan_of arguments)) old new result ends) [
    | inl so ↦ inl (each so.answer.end so.text so.answer.ends so.answer.comes)
    | inr stops ↦ inr stops
  ]

  -- ---- absent files

  pub absent_exactly : AbsentExactly D told (plan_of arguments) old new result
  absent_exactly = record {
    only = λ is.
        let cause : D.cause result ≡ Absence = ap D.cause is ∙ lawful.apart.absent in
        let so = answer_by Absence cause (λ stops. stops) in
        only so.text so.answer.end so.answer.ends so.answer.comes (sym (comes_of D plan_of lawful told arguments so.answer.end so.text result so.answer.ends so.answer.comes) ∙ cause) so.sent;
    always = λ kind name fetched missing. ends_with (D.status_of stop.Absent) (λ end text found comes.
        let (part, at, later) = passes D lawful.readable told (LooksFor D Tells told kind name) (plan_of arguments) end fetched found in
        let same = absent_here D told kind name part end missing at later in
        (subst (λ (e : End D). ComesWith D e text result) same comes).1);
  }
    where
      only : (text : List ℕ) (end : End D) → EndsAt D Agrees told (plan_of arguments) end → ComesWith D end text result
          → end_cause end ≡ Absence
          → new ≡ appended old text → FindsAbsence D told (plan_of arguments) old new result
      only text (AbsentAt name) found comes is sent =
          let (kind, fetched, agrees) = way_to_absent D told (plan_of arguments) name found in
          record { kind = kind; name = name; fetched = fetched; agrees = agrees; sent = sent ∙ ap (appended old) comes.0 }
      only text (LongAt name limit) found comes is sent = absurd cc
      only text (RefusedAt line status) found comes is sent = absurd cc
      only text (WorkAt work) found comes is sent = absurd cc

  -- ---- files longer than their limit

  pub long_exactly : LongExactly D told (plan_of arguments) old new result
  long_exactly = record {
    only = λ is.
        let cause : D.cause result ≡ Content = ap D.cause is ∙ lawful.apart.long in
        let so = answer_by Content cause (λ stops. stops) in
        only so.text so.answer.end so.answer.ends so.answer.comes is so.sent;
    always = λ kind name bytes given long. ends_with (D.status_of stop.TooLong) (λ end text found comes.
        let (part, at, later) = passes D lawful.readable told (HasBytes D Tells told kind name bytes) (plan_of arguments) end given found in
        let same = at_bytes_here D lawful.readable told kind name bytes part end (LongAt name (D.limit kind)) at (inl (long, refl)) later in
        (subst (λ (e : End D). ComesWith D e text result) same comes).1);
  }
    where
      only : (text : List ℕ) (end : End D) → EndsAt D Agrees told (plan_of arguments) end → ComesWith D end text result → result ≡ D.status_of stop.TooLong
          → new ≡ appended old text → FindsLong D told (plan_of arguments) old new result
      only text (AbsentAt name) found comes is sent =
          let other : Absence ≡ Content = sym lawful.apart.absent ∙ ap D.cause (sym comes.1 ∙ is) ∙ lawful.apart.long in absurd cc
      only text (LongAt name limit) found comes is sent =
          let (kind, bytes, given, long, limits) = way_to_long D told (plan_of arguments) name limit found in
          record { kind = kind; name = name; bytes = bytes; given = given; long = long; sent = sent ∙ ap (appended old) (comes.0 ∙ ap (long_line name) limits) }
      only text (RefusedAt line status) found comes is sent =
          let (kind, name, bytes, given, refuses, refused) = way_to_refused D told (plan_of arguments) line status found in
          absurd (lawful.apart.refused_not_long kind (sym refused ∙ sym comes.1 ∙ is))
      only text (WorkAt work) found comes is sent = absurd (lawful.apart.made_not_long work text (subst (λ (s : Status). D.Makes work text s) is comes))

  -- ---- refused files

  pub refused_exactly : (kind : D.Kind) → RefusedExactly D told (plan_of arguments) old new result kind
  refused_exactly kind = record {
    only = λ is.
        let cause : D.cause result ≡ Content = ap D.cause is ∙ lawful.apart.refused kind in
        let so = answer_by Content cause (λ stops. stops) in
        only so.text so.answer.end so.answer.ends so.answer.comes is so.sent;
    always = λ name bytes line given refuses. ends_with (D.refused kind) (λ end text found comes.
        let (part, at, later) = passes D lawful.readable told (HasBytes D Tells told kind name bytes) (plan_of arguments) end given found in
        let same = at_bytes_here D lawful.readable told kind name bytes part end (RefusedAt line (D.refused kind)) at (inr (line, refuses, refl)) later in
        (subst (λ (e : End D). ComesWith D e text result) same comes).1);
  }
    where
      only : (text : List ℕ) (end : End D) → EndsAt D Agrees told (plan_of arguments) end → ComesWith D end text result → result ≡ D.refused kind
          → new ≡ appended old text → FindsRefusal D told (plan_of arguments) old new result (D.refused kind)
      only text (AbsentAt name) found comes is sent =
          let other : Absence ≡ Content = sym lawful.apart.absent ∙ ap D.cause (sym comes.1 ∙ is) ∙ lawful.apart.refused kind in absurd cc
      only text (LongAt name limit) found comes is sent = absurd (lawful.apart.refused_not_long kind (sym is ∙ comes.1))
      only text (RefusedAt line status) found comes is sent =
          let (other, name, bytes, given, refuses, refused) = way_to_refused D told (plan_of arguments) line status found in
          record { kind = other; status_is = sym refused ∙ sym comes.1 ∙ is; name = name; bytes = bytes; given = given; line = line; refuses = refuses; sent = sent ∙ ap (appended old) comes.0 }
      only text (WorkAt work) found comes is sent = absurd (lawful.apart.made_not_refused work text kind (subst (λ (s : Status). D.Makes work text s) is comes))

  -- ---- works

  pub work_exactly : WorkExactly D told (plan_of arguments) old new result
  work_exactly work text status wanted makes = elim (answered_or_stopped (D.cause result) (IsAnswer D told (plan_of arguments)) old new result ends) [
    | inr stops ↦ inr stops
    | inl so ↦
        let same = one_end D lawful.readable told (plan_of arguments) so.answer.end (WorkAt work) wanted so.answer.ends in
        let found : EndsAt D Agrees told (plan_of arguments) (WorkAt work) = subst (λ (e : End D). EndsAt D Agrees told (plan_of arguments) e) same so.answer.ends in
        let comes : D.Makes work so.text result = subst (λ (e : End D). ComesWith D e so.text result) same so.answer.comes in
        let one = one_text D plan_of lawful told arguments (WorkAt work) so.text text result status found comes makes in
        inl (one.1, so.sent ∙ ap (appended old) one.0)
  ]

  -- ---- where the shelf tells

  pub ends_exactly : TellsFiles D told (plan_of arguments) → (text : List ℕ) (status : Status) → IsAnswer D told (plan_of arguments) text status
      → EndsExactly D old new result text status
  ends_exactly tells text status answer = elim (answered_or_stopped (D.cause result) (IsAnswer D told (plan_of arguments)) old new result ends) [
    | inr stops ↦ inr stops
    | inl so ↦
        let one = one_answer D plan_of lawful told arguments so.text text result status tells so.answer answer in
        inl (one.1, so.sent ∙ ap (appended old) one.0)
  ]
