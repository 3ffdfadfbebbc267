use Rattle.std.proofs.Common.{◌≡◌, ◌++◌, refl}
use Rattle.std.specs.Prelude.{codes, Result, Ok, Err, IfOk, OnOk, OnErr}
use Rattle.std.specs.Result.{result_and}
use Rattle.ags_outside.specs.declared.sending.SendError.{SendError}
use Rattle.ags_program.specs.declared.status.Status.{Status}
use Rattle.ags_run.specs.ErrorText.{error_text}
use Rattle.ags_played.proofs.SendingLemmas.{fault_with}
use Rattle.ags_played.proofs.guard_command.say_met.Goals as goal

module _ {U : Type 0} where
  ended_with : (sent : Result U SendError) (status : Status) → IfOk (result_and sent (Ok status)) (λ ended. ended ≡ status)
  ended_with (Ok x) status = refl
  ended_with (Err e) status = tt

  sent_with : (P : Type 0) (sent : Result U SendError) (status : Status) → OnOk sent P → OnOk (result_and sent (Ok status)) P
  sent_with P (Ok x) status p = p
  sent_with P (Err e) status p = tt

  front_with : (P : Type 0) (sent : Result U SendError) (status : Status) → OnErr sent P → OnErr (result_and sent (Ok status)) P
  front_with P (Ok x) status p = tt
  front_with P (Err e) status p = p

pub returns-clause-ended : goal.returns-clause-ended
returns-clause-ended g c = rw c.and.ensures (ended_with c.send_line.result _)

pub returns-clause-sent : goal.returns-clause-sent
returns-clause-sent g c = rw c.and.ensures (sent_with _ c.send_line.result _ (c.send_line.ensures.sent (error_text c.args.error ++ codes "\n") c.met_line.ensures))

pub returns-clause-front : goal.returns-clause-front
returns-clause-front g c = rw c.and.ensures (front_with _ c.send_line.result _ (c.send_line.ensures.front (error_text c.args.error ++ codes "\n") c.met_line.ensures))

pub returns-clause-faults : goal.returns-clause-faults
returns-clause-faults g c = rw (c.and.ensures, fault_with c.send_line.result _) c.send_line.ensures.faults
