-- Answers to command lines: that there is one, and one alone where the shelf tells.
use Rattle.std.proofs.Common.{◌≡◌, ℕ, List, refl, sym, subst, ◌∙◌}
use Rattle.ags_plan.specs.Plan.{Definition, Plan, End, AbsentAt, LongAt, RefusedAt, WorkAt, absent_line, long_line}
use Rattle.ags_plan.specs.declared.causes.Stop.TheVariants as stop
use Rattle.ags_plan.specs.Walk.{Told, Agrees, EndsAt}
use Rattle.ags_plan.specs.Answer.{ComesWith, IsAnswer, TellsFiles}
use Rattle.ags_plan.specs.Lawful.{IsLawful}
use Rattle.ags_plan.proofs.WalkLemmas.{some_end, one_end, told_end}

module _ {Status : Type 0} (D : Definition Status) (plan_of : List (List ℕ) → Plan D) (lawful : IsLawful D plan_of) (told : Told) (arguments : List (List ℕ)) where
  -- each end comes with a text and a status
  pub some_text : (end : End D) → EndsAt D Agrees told (plan_of arguments) end → (text : List ℕ) × (status : Status) × ComesWith D end text status
  some_text (AbsentAt name) ends = (absent_line name, D.status_of stop.Absent, (refl, refl))
  some_text (LongAt name limit) ends = (long_line name limit, D.status_of stop.TooLong, (refl, refl))
  some_text (RefusedAt line status) ends = (line, status, (refl, refl))
  some_text (WorkAt work) ends = lawful.doable.some told arguments work ends

  -- and with one of each
  pub one_text : (end : End D) (text other : List ℕ) (status ended : Status) → EndsAt D Agrees told (plan_of arguments) end
      → ComesWith D end text status → ComesWith D end other ended → (text ≡ other) × (status ≡ ended)
  one_text (AbsentAt name) text other status ended ends one two = (one.0 ∙ sym two.0, one.1 ∙ sym two.1)
  one_text (LongAt name limit) text other status ended ends one two = (one.0 ∙ sym two.0, one.1 ∙ sym two.1)
  one_text (RefusedAt line refused) text other status ended ends one two = (one.0 ∙ sym two.0, one.1 ∙ sym two.1)
  one_text (WorkAt work) text other status ended ends one two = lawful.doable.one told arguments work text other status ended ends one two

  pub some_answer : (text : List ℕ) × (status : Status) × IsAnswer D told (plan_of arguments) text status
  some_answer =
      let (end, ends) = some_end D lawful.readable told (plan_of arguments) in
      let (text, status, comes) = some_text end ends in
      (text, status, record { end = end; ends = ends; comes = comes })

  pub one_answer : (text other : List ℕ) (status ended : Status) → TellsFiles D told (plan_of arguments)
      → IsAnswer D told (plan_of arguments) text status → IsAnswer D told (plan_of arguments) other ended → (text ≡ other) × (status ≡ ended)
  one_answer text other status ended tells first second =
      let same : first.end ≡ second.end =
      one_end D lawful.readable told (plan_of arguments) first.end second.end (told_end D told (plan_of arguments) second.end tells second.ends) first.ends in
      one_text second.end text other status ended second.ends (subst (λ (e : End D). ComesWith D e text status) same first.comes) second.comes
