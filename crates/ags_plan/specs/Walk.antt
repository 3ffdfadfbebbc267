-- The walk along a plan: what a shelf tells, or may hold, decides at each file how it goes on, and the first file that is absent,
-- too long or refused ends it.
use Rattle.std.specs.Prelude.{◌≡◌, ◌⊎◌, ℕ, ◌<◌, ◌≤◌, List, length, Option, Some, None}
use Rattle.ags_outside.specs.ToldFile.{ToldFile, Untold, Missing, Stored}
use Rattle.ags_plan.specs.Plan.{Definition, Plan, Do, Read, Take, End, AbsentAt, LongAt, RefusedAt, WorkAt}

-- what a shelf tells of each name
abbrev pub Told : Type 0
Told = List ℕ → ToldFile

-- How a walk sees a file, or its absence: by what is told of it.
abbrev pub Sight : Type 1
Sight = ToldFile → Option (List ℕ) → Type 0

-- the file, or its absence, agrees with what a shelf tells of it: a shelf that tells nothing may hold any
abbrev pub Agrees : ToldFile → Option (List ℕ) → Type 0
Agrees Untold file = Unit {0}
Agrees Missing file = file ≡ None
Agrees (Stored bytes) file = file ≡ Some bytes

-- the shelf tells the file, or its absence
abbrev pub Tells : ToldFile → Option (List ℕ) → Type 0
Tells told None = told ≡ Missing
Tells told (Some bytes) = told ≡ Stored bytes

-- The bytes are within the limit of their kind and hold this value.
pub record HoldsWithin {Status : Type 0} (D : Definition Status) (kind : D.Kind) (bytes : List ℕ) (value : D.Value kind) : Type 0 where
  pub short : length bytes ≤ D.limit kind
  pub holds : D.Holds kind bytes value

-- The bytes are within the limit of their kind and refused with this line.
pub record RefusesWithin {Status : Type 0} (D : Definition Status) (kind : D.Kind) (bytes line : List ℕ) : Type 0 where
  pub short : length bytes ≤ D.limit kind
  pub refuses : D.Refuses kind bytes line

module _ {Status : Type 0} (D : Definition Status) (See : Sight) (told : Told) where
  -- the file of that name is seen with bytes that hold this value
  abbrev pub SeesValue : (kind : D.Kind) (name : List ℕ) → D.Value kind → Type 0
  SeesValue kind name value = (bytes : List ℕ) × See (told name) (Some bytes) × HoldsWithin D kind bytes value

  -- The walk comes to a part of the plan of which the fact holds: to the plan itself, or after a file that is seen with a
  -- value, or after bytes of the program's own that hold one.
  abbrev pub ComesTo : (At : Plan D → Type 0) → Plan D → Type 0
  ComesTo At (Do work) = At (Do work)
  ComesTo At (Read kind name next) = At (Read kind name next)
      ⊎ ((value : D.Value kind) × SeesValue kind name value × ComesTo At (next value))
  ComesTo At (Take kind name bytes next) = At (Take kind name bytes next)
      ⊎ ((value : D.Value kind) × HoldsWithin D kind bytes value × ComesTo At (next value))

  -- the walk ends at bytes of that kind and name: they are too long, or refused
  abbrev pub EndsAtBytes : (kind : D.Kind) (name bytes : List ℕ) → End D → Type 0
  EndsAtBytes kind name bytes end = ((D.limit kind < length bytes) × (end ≡ LongAt name (D.limit kind)))
      ⊎ ((line : List ℕ) × RefusesWithin D kind bytes line × (end ≡ RefusedAt line (D.refused kind)))

  -- the walk ends in this very part of the plan
  abbrev pub EndsHere : End D → Plan D → Type 0
  EndsHere end (Do work) = end ≡ WorkAt work
  EndsHere end (Read kind name next) = (See (told name) None × (end ≡ AbsentAt name))
      ⊎ ((bytes : List ℕ) × See (told name) (Some bytes) × EndsAtBytes kind name bytes end)
  EndsHere end (Take kind name bytes next) = EndsAtBytes kind name bytes end

  -- the walk along the plan ends like this
  abbrev pub EndsAt : Plan D → End D → Type 0
  EndsAt plan end = ComesTo (EndsHere end) plan

  -- the walk comes past all files to that work: each is seen with a value, which says how it goes on
  abbrev pub LeadsTo : Plan D → D.Work → Type 0
  LeadsTo (Do done) work = done ≡ work
  LeadsTo (Read kind name next) work = (value : D.Value kind) × SeesValue kind name value × LeadsTo (next value) work
  LeadsTo (Take kind name bytes next) work = (value : D.Value kind) × HoldsWithin D kind bytes value × LeadsTo (next value) work

  -- this part of the plan looks for the file of that name, of that kind
  abbrev pub LooksFor : (kind : D.Kind) (name : List ℕ) → Plan D → Type 0
  LooksFor kind name (Read here named next) = (here ≡ kind) × (named ≡ name)
  LooksFor kind name _ = ⊥

  -- the walk comes to look for the file of that name, of that kind
  abbrev pub IsFetched : Plan D → (kind : D.Kind) (name : List ℕ) → Type 0
  IsFetched plan kind name = ComesTo (LooksFor kind name) plan

  -- this part of the plan is given these bytes, of that kind and name: those of a file that is seen, or the program's own
  abbrev pub HasBytes : (kind : D.Kind) (name bytes : List ℕ) → Plan D → Type 0
  HasBytes kind name bytes (Do work) = ⊥
  HasBytes kind name bytes (Read here named next) = (here ≡ kind) × (named ≡ name) × See (told named) (Some bytes)
  HasBytes kind name bytes (Take here named own next) = (here ≡ kind) × (named ≡ name) × (own ≡ bytes)

  -- the walk comes to these bytes, of that kind and name
  abbrev pub IsGiven : Plan D → (kind : D.Kind) (name bytes : List ℕ) → Type 0
  IsGiven plan kind name bytes = ComesTo (HasBytes kind name bytes) plan
