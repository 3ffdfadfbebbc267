-- What a call comes to whose files weren't loaded.
use Rattle.std.proofs.Common.{◌≡◌, [], sym, subst, ◌∙◌, ◌⊎◌, inl, inr}
use Rattle.std.specs.Prelude.{Result, Ok, Err}
use Rattle.ags_outside.specs.declared.sending.SendError.{SendError}
use Rattle.ags_outside.specs.declared.sending.SendError.TheVariants as send
use Rattle.ags_plan.specs.Answer.{IsAnswer}
use Rattle.ags_plan.specs.Outcome.{Ends}
use Rattle.ags_plan.specs.Plan.{End, AbsentAt, LongAt, RefusedAt, WorkAt}
use Rattle.ags_plan.specs.Saying.{Says, SaidInPart, SaysEarly, IsEarly, settled}
use Rattle.ags_plan.specs.Walk.{Agrees, EndsAt}
use Rattle.ags_plan.proofs.RunLemmas.{said_ends}
use Rattle.ags_plan.proofs.WalkLemmas.{some_end, way_to_refused}
use Rattle.ags_program.specs.declared.status.Status.{Status}
use Rattle.ags_bench.specs.Files.{Kind, MachineFile, Source, Certificate, Script, refused_status}
use Rattle.ags_bench.specs.Outcome.{Call, EndsSo, Undriven, Leaves}
use Rattle.ags_bench.specs.Program.{program, plan_of}
use Rattle.ags_bench.specs.ProgramLaws.{lawful_program}
use Rattle.ags_bench.proofs.OverLemmas.{end_over, ends_over, says_over}

-- the status of a refused file leaves the devices as they were
refused_leaves : (call : Call) (kind : Kind) (status : Status) → status ≡ refused_status kind → call.devices_now ≡ call.devices → Leaves status call
refused_leaves call MachineFile status is stayed = subst (λ (s : Status). Leaves s call) (sym is) stayed
refused_leaves call (Source machine) status is stayed = subst (λ (s : Status). Leaves s call) (sym is) stayed
refused_leaves call (Certificate machine) status is stayed = subst (λ (s : Status). Leaves s call) (sym is) stayed
refused_leaves call (Script machine) status is stayed = subst (λ (s : Status). Leaves s call) (sym is) stayed

module _ (call : Call) (stayed : call.devices_now ≡ call.devices) where
  -- a text that was said in part of an end before any work
  front_of : (end : End (program [])) → IsEarly end → EndsSo Agrees call (end_over [] call.devices end) → SaidInPart (program []) end call.old call.new ⊎ (call.new ≡ call.old)
      → Undriven call
  front_of (AbsentAt name) early ends (inl part) =
      record { records = stayed; front = inr (part.text, record { end = AbsentAt name; ends = ends; opens = (part.status, part.comes) }, part.prefix) }
  front_of (LongAt name limit) early ends (inl part) =
      record { records = stayed; front = inr (part.text, record { end = LongAt name limit; ends = ends; opens = (part.status, part.comes) }, part.prefix) }
  front_of (RefusedAt line refused) early ends (inl part) =
      record { records = stayed; front = inr (part.text, record { end = RefusedAt line refused; ends = ends; opens = (part.status, part.comes) }, part.prefix) }
  front_of (WorkAt work) early ends (inl part) = absurd early
  front_of end early ends (inr same) = record { records = stayed; front = inl same }

  said_leaves : (end : End (program [])) (ended : Result Status SendError) → IsEarly end → EndsAt (program []) Agrees call.told (plan_of [] call.words) end
      → Says (program []) end call.old call.new ended → Leaves (settled (program []) ended) call
  said_leaves (AbsentAt name) (Ok status) early ends says = subst (λ (s : Status). Leaves s call) (sym says.comes.1) stayed
  said_leaves (LongAt name limit) (Ok status) early ends says = subst (λ (s : Status). Leaves s call) (sym says.comes.1) stayed
  said_leaves (RefusedAt line refused) (Ok status) early ends says =
      let (kind, name, bytes, given, refuses, is) = way_to_refused (program []) call.told (plan_of [] call.words) line refused ends in
      refused_leaves call kind status (says.comes.1 ∙ is) stayed
  said_leaves (WorkAt work) (Ok status) early ends says = absurd early
  said_leaves end (Err send.WriteFault) early ends says = inl (front_of end early (ends_over [] call.devices Agrees call.told call.words end ends) says)
  said_leaves end (Err send.NoMemory) early ends says = inl (front_of end early (ends_over [] call.devices Agrees call.told call.words end ends) says)

  pub early_leaves : SaysEarly (program []) call.told (plan_of [] call.words) call.old call.new call.result → Leaves call.result call
  early_leaves (inl (end, early, ends, (ended, says, is))) = subst (λ (s : Status). Leaves s call) (sym is) (said_leaves end ended early ends says)
  early_leaves (inr (inl is, same)) = subst (λ (s : Status). Leaves s call) (sym is) stayed
  early_leaves (inr (inr is, same)) = subst (λ (s : Status). Leaves s call) (sym is) (inl (record { records = stayed; front = inl same }))

-- the answer of such a call
pub early_ends : (call : Call) → SaysEarly (program []) call.told (plan_of [] call.words) call.old call.new call.result
    → Ends (program call.devices) (IsAnswer (program call.devices) call.told (plan_of call.devices call.words)) call.old call.new call.result
early_ends call (inl (end, early, ends, (ended, says, is))) =
    subst (λ (s : Status). Ends (program call.devices) (IsAnswer (program call.devices) call.told (plan_of call.devices call.words)) call.old call.new s) (sym is)
    (said_ends (program call.devices) (plan_of call.devices) (lawful_program call.devices) call.told call.words (end_over [] call.devices end) call.old call.new ended
    (ends_over [] call.devices Agrees call.told call.words end ends) (says_over [] call.devices end call.old call.new ended early says))
early_ends call (inr (inl is, same)) =
    subst (λ (s : Status). Ends (program call.devices) (IsAnswer (program call.devices) call.told (plan_of call.devices call.words)) call.old call.new s) (sym is) same
early_ends call (inr (inr is, same)) =
    let (end, ends) = some_end (program call.devices) (lawful_program call.devices).readable call.told (plan_of call.devices call.words) in
    subst (λ (s : Status). Ends (program call.devices) (IsAnswer (program call.devices) call.told (plan_of call.devices call.words)) call.old call.new s) (sym is)
    (said_ends (program call.devices) (plan_of call.devices) (lawful_program call.devices) call.told call.words end call.old call.new (Err send.NoMemory) ends (inr same))
