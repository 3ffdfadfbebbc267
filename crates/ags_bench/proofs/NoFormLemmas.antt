-- With which devices a call leaves whose words are none of the forms.
use Rattle.std.proofs.Common.{◌≡◌, ℕ, List, [], Option, sym, subst, inl, inr, ◌⊎◌}
use Rattle.ags_device.specs.Record.{DeviceRecord}
use Rattle.std.specs.Prelude.{Result, Ok, Err}
use Rattle.ags_outside.specs.declared.sending.SendError.{SendError}
use Rattle.ags_outside.specs.declared.sending.SendError.TheVariants as send
use Rattle.ags_plan.specs.Plan.{WorkAt}
use Rattle.ags_plan.specs.Saying.{Says, SaidInPart, settled}
use Rattle.ags_plan.specs.Walk.{Agrees}
use Rattle.ags_program.specs.declared.status.Status.{Status}
use Rattle.ags_bench.specs.Outcome.{Call, EndsSo, Undriven, Leaves}
use Rattle.ags_bench.specs.Program.{program}
use Rattle.ags_bench.specs.Work.{NoForm}

module _ (call : Call) (ends : EndsSo Agrees call (WorkAt NoForm)) (stayed : call.devices_now ≡ call.devices) where
  in_part : SaidInPart (program call.devices) (WorkAt NoForm) call.old call.new ⊎ (call.new ≡ call.old) → Undriven call
  in_part (inl part) = record { records = stayed; front = inr (part.text, record { end = WorkAt NoForm; ends = ends; opens = (part.status, part.comes) }, part.prefix) }
  in_part (inr same) = record { records = stayed; front = inl same }

  leaves_so : (ended : Result Status SendError) → Says (program call.devices) (WorkAt NoForm) call.old call.new ended → Leaves (settled (program []) ended) call
  leaves_so (Ok status) say = subst (λ (s : Status). Leaves s call) (sym say.comes.1) stayed
  leaves_so (Err send.WriteFault) say = inl (in_part say)
  leaves_so (Err send.NoMemory) say = inl (in_part say)

pub no_form_leaves : (call : Call) (ended : Result Status SendError) → EndsSo Agrees call (WorkAt NoForm) → Says (program call.devices) (WorkAt NoForm) call.old call.new ended
    → call.devices_now ≡ call.devices → Leaves (settled (program []) ended) call
no_form_leaves call ended ends say stayed = leaves_so call ends stayed ended say

-- what is said of no form is the same whatever devices are handed in
pub says_no_form : (devices : List DeviceRecord) (old new : Option (List ℕ)) (ended : Result Status SendError) → Says (program []) (WorkAt NoForm) old new ended
    → Says (program devices) (WorkAt NoForm) old new ended
says_no_form devices old new (Ok status) says = record { text = says.text; comes = says.comes; sent = says.sent }
says_no_form devices old new (Err error) (inl part) = inl (record { text = part.text; status = part.status; comes = part.comes; prefix = part.prefix })
says_no_form devices old new (Err error) (inr same) = inr same
