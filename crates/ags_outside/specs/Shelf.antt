-- What a shelf answers to one pull.
use Rattle.std.specs.Prelude.{◌≡◌, ℕ, ◌+◌, ◌-◌, ◌^◌, ◌<◌, ◌≤◌, min, List, length, take, drop, Bool, true, false, Option, Some, None}
use Rattle.ags_outside.specs.ToldFile.{ToldFile, Missing, Stored}
use Rattle.ags_outside.specs.declared.shelves.Pull.{Pull}
use Rattle.ags_outside.specs.declared.shelves.Pull.TheVariants.{Got, End, Absent, Failed}

-- an answer with bytes has one at least, and no more than there was room for
abbrev pub GotWithin : ℕ → Pull → Type 0
GotWithin room (Got count) = (0 < count) × (count ≤ room)
GotWithin room _ = Unit {0}

-- What an answer says of a file, where the shelf tells of it. Of an absent file there are no bytes and no
-- end. Of a file that is there, the bytes are those that stand at that position, the end comes only where no
-- byte does, and it isn't absent. Where the shelf tells nothing, nothing is said.
abbrev pub PullTells : (told : ToldFile) (from : ℕ) (into : List ℕ) (answer : Pull) → Type 0
PullTells Missing from into (Got count) = ⊥
PullTells Missing from into End = ⊥
PullTells (Stored bytes) from into (Got count) =
    (from + count ≤ length bytes) × (take count into ≡ take count (drop from bytes))
PullTells (Stored bytes) from into End = length bytes ≤ from
PullTells (Stored bytes) from into Absent = ⊥
PullTells _ from into _ = Unit {0}

-- whether a shelf failed, which its count of faults counts
abbrev pub is_failed_pull : Pull → Bool
is_failed_pull Failed = true
is_failed_pull _ = false

-- whether it found the file absent, which its count of absent files counts
abbrev pub is_absent_pull : Pull → Bool
is_absent_pull Absent = true
is_absent_pull _ = false

-- An answer of a shelf that never fails and never wants memory. Of a file that is there it gives as many bytes as
-- stand at that position and after it, up to the room.
abbrev pub IsSteadyPull : (file : Option (List ℕ)) (from room : ℕ) (answer : Pull) → Type 0
IsSteadyPull None from room Absent = Unit {0}
IsSteadyPull (Some bytes) from room (Got count) = count ≡ min room (length bytes - from)
IsSteadyPull (Some bytes) from room End = length bytes ≤ from
IsSteadyPull _ from room _ = ⊥

-- a count of absent files after an answer: one more where the file was absent, up to the last value of a counter
abbrev pub absences_after : ℕ → Pull → ℕ
absences_after before Absent = min (before + 1) (2 ^ 64 - 1)
absences_after before _ = before
