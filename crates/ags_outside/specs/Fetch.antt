-- What a fetch answers: a list of bytes, or why there is none.
use Rattle.std.specs.Prelude.{◌≡◌, ℕ, ◌<◌, ◌≤◌, Bool, true, false, List, length, Result, Ok, Err}
use Rattle.ags_outside.specs.ToldFile.{ToldFile, Missing, Stored}
use Rattle.ags_outside.specs.declared.fetching.FetchError.{FetchError}
use Rattle.ags_outside.specs.declared.fetching.FetchError.TheVariants.{Absent, ReadFault, TooLong}

-- What a fetch's answer says of the file, where the shelf tells of it. An absent file gives no bytes and
-- isn't too long. A file that is there isn't absent: its bytes are given where they are no more than the
-- limit, and it is too long only where they are more. Where the shelf tells nothing, nothing is said.
abbrev pub FetchTells : (told : ToldFile) (limit : ℕ) (answer : Result (List ℕ) FetchError) → Type 0
FetchTells Missing limit (Ok given) = ⊥
FetchTells Missing limit (Err TooLong) = ⊥
FetchTells (Stored bytes) limit (Ok given) = (given ≡ bytes) × (length bytes ≤ limit)
FetchTells (Stored bytes) limit (Err Absent) = ⊥
FetchTells (Stored bytes) limit (Err TooLong) = limit < length bytes
FetchTells _ limit _ = Unit {0}

-- whether a fetch met a fault of the shelf, which its count of faults counts
abbrev pub is_read_fault : {T : Type 0} → Result T FetchError → Bool
is_read_fault (Err ReadFault) = true
is_read_fault _ = false

-- whether a fetch found the file absent, which the shelf's count of absent files counts
abbrev pub is_absence : {T : Type 0} → Result T FetchError → Bool
is_absence (Err Absent) = true
is_absence _ = false
