-- How loaders compose. After `plans_are_loaded_file_by_file` of `laws.rt` stand
--     loads_stop   where the first file of a plan isn't loaded, nothing of it is
--     loads_on     where it is, the rest of the plan goes on from its value
--     takes_stop   the same of bytes that the program makes itself, where they hold no value
--     takes_on     and where they hold one
use Rattle.std.proofs.Common.{ℕ, ◌+◌, ◌<◌, List, length, replicate, Option, Some, None, Result, Ok, Err, refl, inl, inr, arith}
use Rattle.std.proofs.lemmas.List.{length-replicate}
use Rattle.ags_outside.specs.ToldFile.{ToldFile, Untold, Missing, Stored}
use Rattle.ags_outside.specs.declared.fetching.FetchError.TheVariants.{TooLong}
use Rattle.ags_outside.specs.Fetch.{FetchTells}
use Rattle.ags_plan.specs.Plan.{Definition, Plan, Read, Take, End}
use Rattle.ags_plan.specs.Walk.{Told, Agrees}
use Rattle.ags_plan.specs.Loading.{LoadsFile, Loads, TakesBytes}

-- a file that is told too long is longer than the limit, and where nothing is told there are such files
pub some_long : (told : ToldFile) (limit : ℕ) → FetchTells told limit (Err TooLong) → (bytes : List ℕ) × Agrees told (Some bytes) × (limit < length bytes)
some_long Untold limit tells = (replicate (limit + 1) 0, tt, rw length-replicate (omega arith))
some_long Missing limit tells = absurd tells
some_long (Stored bytes) limit tells = (bytes, refl, tells)

module _ {Status : Type 0} (D : Definition Status) (told : Told) (kind : D.Kind) (name : List ℕ) (next : D.Value kind → Plan D) where
  pub loads_stop : (why : Option (End D)) → LoadsFile D told kind name (Err why) → Loads D told (Read kind name next) (Err why)
  loads_stop None stops = tt
  loads_stop (Some end) stops = inl (stops next)

  pub loads_on : (value : D.Value kind) (result : Result D.Work (Option (End D))) → LoadsFile D told kind name (Ok value) → Loads D told (next value) result
      → Loads D told (Read kind name next) result
  loads_on value (Ok work) sees later = inr (value, sees, later)
  loads_on value (Err None) sees later = tt
  loads_on value (Err (Some end)) sees later = inr (value, sees, later)

module _ {Status : Type 0} (D : Definition Status) (told : Told) (kind : D.Kind) (name bytes : List ℕ) (next : D.Value kind → Plan D) where
  pub takes_stop : (why : Option (End D)) → TakesBytes D told kind name bytes (Err why) → Loads D told (Take kind name bytes next) (Err why)
  takes_stop None stops = tt
  takes_stop (Some end) stops = inl stops

  pub takes_on : (value : D.Value kind) (result : Result D.Work (Option (End D))) → TakesBytes D told kind name bytes (Ok value) → Loads D told (next value) result
      → Loads D told (Take kind name bytes next) result
  takes_on value (Ok work) holds later = inr (value, holds, later)
  takes_on value (Err None) holds later = tt
  takes_on value (Err (Some end)) holds later = inr (value, holds, later)
