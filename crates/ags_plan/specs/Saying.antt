-- What the last part of a run comes to: what is said of the end of the walk.
use Rattle.std.specs.Prelude.{◌≡◌, ◌⊎◌, ℕ, List, Option, Result, Ok, Err}
use Rattle.ags_outside.specs.declared.sending.SendError.{SendError}
use Rattle.ags_outside.specs.declared.sending.SendError.TheVariants as send
use Rattle.ags_outside.specs.Sink.{appended, WroteFront}
use Rattle.ags_plan.specs.declared.causes.Stop.TheVariants as stop
use Rattle.ags_plan.specs.declared.unloaded.Unloaded.{Unloaded}
use Rattle.ags_plan.specs.declared.unloaded.Unloaded.TheVariants.{Absent, TooLong, Refused, ReadFault, NoMemory}
use Rattle.ags_plan.specs.Plan.{Definition, Plan, End, AbsentAt, LongAt, RefusedAt, WorkAt}
use Rattle.ags_plan.specs.Answer.{ComesWith}
use Rattle.ags_plan.specs.Walk.{Told, Agrees, EndsAt}

-- The sink took a text that the end comes with, and this status.
pub record SaidWhole {Status : Type 0} (D : Definition Status) (end : End D) (old new : Option (List ℕ)) (status : Status) : Type 0 where
  pub text : List ℕ
  pub comes : ComesWith D end text status
  pub sent : new ≡ appended old text

-- The sink took a prefix of a text that the end comes with.
pub record SaidInPart {Status : Type 0} (D : Definition Status) (end : End D) (old new : Option (List ℕ)) : Type 0 where
  pub text : List ℕ
  pub status : Status
  pub comes : ComesWith D end text status
  pub prefix : WroteFront old new text

-- The end is said whole; or the output or memory stopped it: then nothing was sent, or a prefix of what the end comes with.
abbrev pub Says : {Status : Type 0} (D : Definition Status) (end : End D) (old new : Option (List ℕ)) → Result Status SendError → Type 0
Says D end old new (Ok status) = SaidWhole D end old new status
Says D end old new (Err error) = SaidInPart D end old new ⊎ (new ≡ old)

-- it is said why the files weren't loaded: how the walk ends, or nothing, where the shelf failed or memory ran out
abbrev pub SaysWhy : {Status R : Type 0} (D : Definition Status) (line_of : R → List ℕ) (status_of : R → Status) → Unloaded R
    → (old new : Option (List ℕ)) → Result Status SendError → Type 0
SaysWhy D line_of status_of (Absent name) old new ended = Says D (AbsentAt name.now) old new ended
SaysWhy D line_of status_of (TooLong name limit) old new ended = Says D (LongAt name.now limit) old new ended
SaysWhy D line_of status_of (Refused refusal) old new ended = Says D (RefusedAt (line_of refusal) (status_of refusal)) old new ended
SaysWhy D line_of status_of ReadFault old new ended = (ended ≡ Ok (D.status_of stop.ReadFault)) × (new ≡ old)
SaysWhy D line_of status_of NoMemory old new ended = (ended ≡ Err send.NoMemory) × (new ≡ old)

-- the status of a run by what its last part came to
abbrev pub settled : {Status : Type 0} (D : Definition Status) → Result Status SendError → Status
settled D (Ok status) = status
settled D (Err send.WriteFault) = D.status_of stop.WriteFault
settled D (Err send.NoMemory) = D.status_of stop.NoMemory

-- ---- a run whose files weren't loaded

-- the end is no work
abbrev pub IsEarly : {Status : Type 0} {D : Definition Status} → End D → Type 0
IsEarly (WorkAt work) = ⊥
IsEarly _ = Unit {0}

-- The walk ends before any work, and that is said; or a fault of the shelf or want of memory stopped it, and nothing is.
abbrev pub SaysEarly : {Status : Type 0} (D : Definition Status) (told : Told) (plan : Plan D) (old new : Option (List ℕ)) → Status → Type 0
SaysEarly {Status} D told plan old new status =
    ((end : End D) × IsEarly end × EndsAt D Agrees told plan end × ((ended : Result Status SendError) × Says D end old new ended × (status ≡ settled D ended)))
    ⊎ (((status ≡ D.status_of stop.ReadFault) ⊎ (status ≡ D.status_of stop.NoMemory)) × (new ≡ old))
