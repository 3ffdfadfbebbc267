use Rattle.std.proofs.Common.{◌≡◌, refl}
use Rattle.std.specs.Prelude.{Result, Ok, Err, IfOk, OnOk, OnErr}
use Rattle.std.specs.Result.{result_and}
use Rattle.ags_outside.specs.Send.{is_write_fault}
use Rattle.ags_outside.specs.declared.sending.SendError.{SendError}
use Rattle.ags_outside.specs.declared.sending.SendError.TheVariants.{WriteFault, NoMemory}
use Rattle.ags_program.specs.declared.status.Status.{Status}
use Rattle.ags_benchjudged.specs.Driving.{met_of}
use Rattle.ags_benchjudged.specs.Met.{met_line}
use Rattle.ags_benchjudged.proofs.driving.say_met.Goals as goal

module _ {U : Type 0} where
  ended_with : (sent : Result U SendError) (status : Status) → IfOk (result_and sent (Ok status)) (λ ended. ended ≡ status)
  ended_with (Ok x) status = refl
  ended_with (Err e) status = tt

  sent_with : (P : Type 0) (sent : Result U SendError) (status : Status) → OnOk sent P → OnOk (result_and sent (Ok status)) P
  sent_with P (Ok x) status p = p
  sent_with P (Err e) status p = tt

  front_with : (P : Type 0) (sent : Result U SendError) (status : Status) → OnErr sent P → OnErr (result_and sent (Ok status)) P
  front_with P (Ok x) status p = tt
  front_with P (Err e) status p = p

  fault_with : (sent : Result U SendError) (status : Status) → is_write_fault (result_and sent (Ok status)) ≡ is_write_fault sent
  fault_with (Ok x) status = refl
  fault_with (Err WriteFault) status = refl
  fault_with (Err NoMemory) status = refl

pub returns-clause-ended : goal.returns-clause-ended
returns-clause-ended g c = rw c.and.ensures (ended_with c.send_line.result _)

pub returns-clause-sent : goal.returns-clause-sent
returns-clause-sent g c = rw c.and.ensures (sent_with _ c.send_line.result _ (c.send_line.ensures.sent (met_line (met_of c.args.error)) c.met_line.ensures))

pub returns-clause-front : goal.returns-clause-front
returns-clause-front g c = rw c.and.ensures (front_with _ c.send_line.result _ (c.send_line.ensures.front (met_line (met_of c.args.error)) c.met_line.ensures))

pub returns-clause-faults : goal.returns-clause-faults
returns-clause-faults g c = rw (c.and.ensures, fault_with c.send_line.result _) c.send_line.ensures.faults
