-- What a program has to prove of its definition: that bytes mean something, and one thing; that each work that it comes to makes
-- one text; and which statuses come of what.
use Rattle.std.specs.Prelude.{◌≡◌, ◌≢◌, ◌⊎◌, ℕ, ◌≤◌, List, length}
use Rattle.ags_plan.specs.declared.causes.Cause.TheVariants as cause
use Rattle.ags_plan.specs.declared.causes.Stop.TheVariants as stop
use Rattle.ags_plan.specs.Plan.{Definition, Plan, WorkAt}
use Rattle.ags_plan.specs.Walk.{Told, Agrees, EndsAt}

-- bytes within the limit of their kind hold a value or are refused with a line, and there is one such value or line
pub record AreReadable {Status : Type 0} (D : Definition Status) : Type 0 where
  pub some : (kind : D.Kind) (bytes : List ℕ) → length bytes ≤ D.limit kind
      → ((value : D.Value kind) × D.Holds kind bytes value) ⊎ ((line : List ℕ) × D.Refuses kind bytes line)
  pub one_value : (kind : D.Kind) (bytes : List ℕ) (value other : D.Value kind) → length bytes ≤ D.limit kind
      → D.Holds kind bytes value → D.Holds kind bytes other → value ≡ other
  pub one_line : (kind : D.Kind) (bytes line other : List ℕ) → D.Refuses kind bytes line → D.Refuses kind bytes other → line ≡ other
  pub not_both : (kind : D.Kind) (bytes line : List ℕ) (value : D.Value kind) → D.Holds kind bytes value → D.Refuses kind bytes line → ⊥

-- each work in which a walk ends makes a text and a status, and one of each
pub record AreDoable {Status : Type 0} (D : Definition Status) (plan_of : List (List ℕ) → Plan D) : Type 0 where
  pub some : (told : Told) (arguments : List (List ℕ)) (work : D.Work) → EndsAt D Agrees told (plan_of arguments) (WorkAt work)
      → (text : List ℕ) × (status : Status) × D.Makes work text status
  pub one : (told : Told) (arguments : List (List ℕ)) (work : D.Work) (text other : List ℕ) (status ended : Status)
      → EndsAt D Agrees told (plan_of arguments) (WorkAt work) → D.Makes work text status → D.Makes work other ended
      → (text ≡ other) × (status ≡ ended)

-- each status comes of what it says, and no work and no refusal has the status of another end
pub record AreApart {Status : Type 0} (D : Definition Status) : Type 0 where
  pub absent : D.cause (D.status_of stop.Absent) ≡ cause.Absence
  pub long : D.cause (D.status_of stop.TooLong) ≡ cause.Content
  pub read_fault : D.cause (D.status_of stop.ReadFault) ≡ cause.ReadFault
  pub write_fault : D.cause (D.status_of stop.WriteFault) ≡ cause.WriteFault
  pub memory : D.cause (D.status_of stop.NoMemory) ≡ cause.Memory
  pub refused : (kind : D.Kind) → D.cause (D.refused kind) ≡ cause.Content
  pub refused_not_long : (kind : D.Kind) → D.refused kind ≢ D.status_of stop.TooLong
  pub made : (work : D.Work) (text : List ℕ) (status : Status) → D.Makes work text status → D.cause status ≡ cause.Content
  pub made_not_long : (work : D.Work) (text : List ℕ) → D.Makes work text (D.status_of stop.TooLong) → ⊥
  pub made_not_refused : (work : D.Work) (text : List ℕ) (kind : D.Kind) → D.Makes work text (D.refused kind) → ⊥

-- what a program proves
pub record IsLawful {Status : Type 0} (D : Definition Status) (plan_of : List (List ℕ) → Plan D) : Type 0 where
  pub readable : AreReadable D
  pub doable : AreDoable D plan_of
  pub apart : AreApart D
