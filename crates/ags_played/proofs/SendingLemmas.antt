-- A status that goes with what was sent. The proofs of the commands cite:
--     said_with      it is said whole, or in part where the sending failed
--     fault_with     the sending's fault is the whole's
use Rattle.std.proofs.Common.{◌≡◌, ℕ, List, Option, inl, refl}
use Rattle.std.specs.Prelude.{Result, Ok, Err, OnOk, OnErr}
use Rattle.std.specs.Result.{result_and}
use Rattle.ags_outside.specs.Send.{is_write_fault}
use Rattle.ags_outside.specs.declared.sending.SendError.{SendError}
use Rattle.ags_outside.specs.declared.sending.SendError.TheVariants.{WriteFault, NoMemory}
use Rattle.ags_plan.specs.Plan.{End}
use Rattle.ags_plan.specs.Saying.{SaidWhole, SaidInPart, Says}
use Rattle.ags_program.specs.declared.status.Status.{Status}
use Rattle.ags_program.specs.Program.{program}

module _ {U : Type 0} where
  pub said_with : {P Q : Type 0} (sent : Result U SendError) (end : End program) (old new : Option (List ℕ)) (status : Status)
      → (P → SaidWhole program end old new status) → (Q → SaidInPart program end old new) → OnOk sent P → OnErr sent Q → Says program end old new (result_and sent (Ok status))
  said_with (Ok x) end old new status whole part all front = whole all
  said_with (Err e) end old new status whole part all front = inl (part front)

  pub fault_with : (sent : Result U SendError) (status : Status) → is_write_fault (result_and sent (Ok status)) ≡ is_write_fault sent
  fault_with (Ok x) status = refl
  fault_with (Err WriteFault) status = refl
  fault_with (Err NoMemory) status = refl
