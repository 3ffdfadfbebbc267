-- What loaders answer: the value of a file, or the work of a plan; or how the walk ends before it; or nothing, where a fault of the
-- shelf or want of memory came.
use Rattle.std.specs.Prelude.{◌≡◌, ℕ, ◌<◌, ◌≤◌, List, length, Option, Some, None, Result, Ok, Err, Bool, true, false}
use Rattle.ags_outside.specs.Taken.{TookMore}
use Rattle.ags_outside.specs.ToldFile.{ToldFile}
use Rattle.ags_plan.specs.declared.unloaded.Unloaded.{Unloaded}
use Rattle.ags_plan.specs.declared.unloaded.Unloaded.TheVariants.{Absent, TooLong, Refused, ReadFault}
use Rattle.ags_plan.specs.Plan.{Definition, Plan, Read, End, AbsentAt, LongAt, RefusedAt, WorkAt}
use Rattle.ags_plan.specs.Walk.{Told, Agrees, HoldsWithin, SeesValue, EndsAtBytes, EndsHere, EndsAt}

-- how the walk ends where a file wasn't loaded, by the line and the status of a refusal; nothing, where the outside or memory
-- stopped it
abbrev pub end_of : {Status R : Type 0} (D : Definition Status) (line_of : R → List ℕ) (status_of : R → Status) → Unloaded R → Option (End D)
end_of D line_of status_of (Absent name) = Some (AbsentAt name.now)
end_of D line_of status_of (TooLong name limit) = Some (LongAt name.now limit)
end_of D line_of status_of (Refused refusal) = Some (RefusedAt (line_of refusal) (status_of refusal))
end_of D line_of status_of _ = None

-- What is fetched of a file agrees with what the shelf tells of it: its bytes, within the limit; or that it is absent, or longer.
abbrev pub FetchesFile : {R : Type 0} → (told : ToldFile) (name : List ℕ) (limit : ℕ) → Result (List ℕ) (Unloaded R) → Type 0
FetchesFile told name limit (Ok bytes) = Agrees told (Some bytes) × (length bytes ≤ limit)
FetchesFile told name limit (Err (Absent absent)) = (absent.now ≡ name) × Agrees told None
FetchesFile told name limit (Err (TooLong long most)) = (long.now ≡ name) × (most ≡ limit) × ((bytes : List ℕ) × Agrees told (Some bytes) × (limit < length bytes))
FetchesFile told name limit (Err (Refused refusal)) = ⊥
FetchesFile told name limit _ = Unit {0}

-- A taker took a file that agrees with what the shelf tells of it, within the limit.
pub record TakesFile {T : Type 0} (took : T → List ℕ → Type 0) (told : ToldFile) (limit : ℕ) (old new : T) : Type 0 where
  pub bytes : List ℕ
  pub agrees : Agrees told (Some bytes)
  pub within : length bytes ≤ limit
  pub more : TookMore took old new bytes

-- A loader's answer for one file of a plan.
abbrev pub LoadsFile : {Status : Type 0} (D : Definition Status) (told : Told) (kind : D.Kind) (name : List ℕ) → Result (D.Value kind) (Option (End D)) → Type 0
LoadsFile D told kind name (Ok value) = SeesValue D Agrees told kind name value
LoadsFile D told kind name (Err None) = Unit {0}
LoadsFile D told kind name (Err (Some end)) = (next : D.Value kind → Plan D) → EndsHere D Agrees told end (Read kind name next)

-- A loader's answer for bytes that the program makes itself, of a kind and under a name of their own: the value that they hold, or how
-- the walk ends at them.
abbrev pub TakesBytes : {Status : Type 0} (D : Definition Status) (told : Told) (kind : D.Kind) (name bytes : List ℕ) → Result (D.Value kind) (Option (End D)) → Type 0
TakesBytes D told kind name bytes (Ok value) = HoldsWithin D kind bytes value
TakesBytes D told kind name bytes (Err None) = Unit {0}
TakesBytes D told kind name bytes (Err (Some end)) = EndsAtBytes D Agrees told kind name bytes end

-- A loader's answer for what is left of a plan.
abbrev pub Loads : {Status : Type 0} (D : Definition Status) (told : Told) (plan : Plan D) → Result D.Work (Option (End D)) → Type 0
Loads D told plan (Ok work) = EndsAt D Agrees told plan (WorkAt work)
Loads D told plan (Err None) = Unit {0}
Loads D told plan (Err (Some end)) = EndsAt D Agrees told plan end

-- whether a loader met a fault of the shelf, which its count of faults counts
abbrev pub is_read_fault : {T R : Type 0} → Result T (Unloaded R) → Bool
is_read_fault (Err ReadFault) = true
is_read_fault _ = false

-- whether a loader found a file absent, which the shelf's count of absent files counts
abbrev pub is_absence : {T R : Type 0} → Result T (Unloaded R) → Bool
is_absence (Err (Absent name)) = true
is_absence _ = false

-- whether a loader found that a file is longer than its limit
abbrev pub is_too_long : {T R : Type 0} → Result T (Unloaded R) → Bool
is_too_long (Err (TooLong name limit)) = true
is_too_long _ = false
