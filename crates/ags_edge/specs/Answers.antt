-- What the adapters answer to what the outside did, and what they count.
use Rattle.std.specs.Prelude.{◌≡◌, ◌⊎◌, ℕ, ◌+◌, ◌-◌, ◌^◌, List, [], take, length, min, Option, Some, None}
use Rattle.std.specs.Io.KnownBytes.{Appends, Keeps}
use Rattle.ags_outside.specs.declared.shelves.Pull.{Pull}
use Rattle.ags_outside.specs.declared.shelves.Pull.TheVariants as pull
use Rattle.ags_outside.specs.declared.sinks.PutDone.{PutDone}
use Rattle.ags_outside.specs.declared.sinks.PutDone.TheVariants as put

-- how many bytes of a file an answer gives: none at its end, and of an answer that is no file's nothing is said
abbrev pub count_of : Pull → Option ℕ
count_of (pull.Got count) = Some count
count_of pull.End = Some 0
count_of pull.Absent = None
count_of pull.Failed = None
count_of pull.NoMemory = None

-- a count of faults after an answer: one more where the shelf failed, up to the last value of a counter
abbrev pub faults_after : ℕ → Pull → ℕ
faults_after before (pull.Got count) = before
faults_after before pull.End = before
faults_after before pull.Absent = before
faults_after before pull.Failed = min (before + 1) (2 ^ 64 - 1)
faults_after before pull.NoMemory = before

-- What a put did to the bytes of the writer after a sink and of the room before it, where they are known: those that
-- were taken stand after the others, and otherwise nothing does.
abbrev pub PutAppends : (old new : Option (List ℕ)) (piece : List ℕ) (answer : PutDone) → Type 0
PutAppends old new piece (put.Took count) = Appends old new (take count piece)
PutAppends old new piece put.Failed = Keeps old new
PutAppends old new piece put.NoMemory = Keeps old new

-- the name of the file that was looked for last: of the one that couldn't be read, else of the one that is open
abbrev pub looked_for : (unread held : Option (List ℕ)) → Option (List ℕ)
looked_for (Some name) held = Some name
looked_for None held = held

-- What is kept of the piece that was put last: all of it, which was taken whole, or nothing. A piece that was taken in part is not kept.
abbrev pub KeepsPiece : (kept : List ℕ) (piece : List ℕ) (answer : PutDone) → Type 0
KeepsPiece kept piece (put.Took count) = ((count ≡ length piece) × (kept ≡ piece)) ⊎ (kept ≡ [])
KeepsPiece kept piece put.Failed = kept ≡ []
KeepsPiece kept piece put.NoMemory = kept ≡ []

-- a sink's count of faults after an answer: one more where it failed, up to the last value of a counter
abbrev pub put_faults_after : ℕ → PutDone → ℕ
put_faults_after before (put.Took count) = before
put_faults_after before put.Failed = min (before + 1) (2 ^ 64 - 1)
put_faults_after before put.NoMemory = before
