-- The answer to a command line: a text and a status.
use Rattle.std.specs.Prelude.{◌≡◌, ℕ, List, Option}
use Rattle.ags_plan.specs.declared.causes.Stop.TheVariants as stop
use Rattle.ags_plan.specs.Plan.{Definition, Plan, End, AbsentAt, LongAt, RefusedAt, WorkAt, absent_line, long_line}
use Rattle.ags_plan.specs.Walk.{Told, Agrees, Tells, EndsAt, IsFetched}

-- the text and the status that an end comes with
abbrev pub ComesWith : {Status : Type 0} (D : Definition Status) → End D → (text : List ℕ) → Status → Type 0
ComesWith D (AbsentAt name) text status = (text ≡ absent_line name) × (status ≡ D.status_of stop.Absent)
ComesWith D (LongAt name limit) text status = (text ≡ long_line name limit) × (status ≡ D.status_of stop.TooLong)
ComesWith D (RefusedAt line refused) text status = (text ≡ line) × (status ≡ refused)
ComesWith D (WorkAt work) text status = D.Makes work text status

-- Over files that agree with what a shelf tells, the walk along the plan ends with this text and status.
pub record IsAnswer {Status : Type 0} (D : Definition Status) (told : Told) (plan : Plan D) (text : List ℕ) (status : Status) : Type 0 where
  pub end : End D
  pub ends : EndsAt D Agrees told plan end
  pub comes : ComesWith D end text status

-- the shelf tells of each file that the walk comes to look for, over what it tells
abbrev pub TellsFiles : {Status : Type 0} (D : Definition Status) → Told → Plan D → Type 0
TellsFiles D told plan = (kind : D.Kind) (name : List ℕ) → IsFetched D Tells told plan kind name → (file : Option (List ℕ)) × Tells (told name) file
