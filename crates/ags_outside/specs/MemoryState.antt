-- What a shelf and a sink in memory stand for of which some calls fail, and what they answer.
use Rattle.std.specs.Prelude.{◌≡◌, ℕ, ◌+◌, ◌-◌, ◌^◌, min, Bool, true, false, List, Option}
use Rattle.ags_outside.specs.FailingCalls.{Calls}
use Rattle.ags_outside.specs.Shelf.{IsSteadyPull}
use Rattle.ags_outside.specs.Sink.{IsSteadyPut}
use Rattle.ags_outside.specs.declared.shelves.Pull.{Pull}
use Rattle.ags_outside.specs.declared.shelves.Pull.TheVariants.{Failed}
use Rattle.ags_outside.specs.declared.sinks.PutDone.{PutDone}
use Rattle.ags_outside.specs.declared.sinks.PutDone.TheVariants as put

-- the files of a shelf, each with its name and its bytes; how often a file was found absent; how often it failed; and its calls
pub record MemoryShelfState : Type 0 where
  pub files : List (List ℕ × List ℕ)
  pub absences : ℕ
  pub faults : ℕ
  pub calls : Calls

-- the bytes that a sink has taken so far; how many it takes at once, at most; how often it failed; and its calls
pub record MemorySinkState : Type 0 where
  pub bytes : List ℕ
  pub most : ℕ
  pub faults : ℕ
  pub calls : Calls

-- a count of faults once a call failed or didn't: one more where it did, up to the last value of a counter
abbrev pub faults_after : ℕ → (fails : Bool) → ℕ
faults_after before true = min (before + 1) (2 ^ 64 - 1)
faults_after before false = before

-- a pull that fails, and any other, which gives what a steady shelf gives
abbrev pub IsMemoryPull : (fails : Bool) (file : Option (List ℕ)) (from room : ℕ) (answer : Pull) → Type 0
IsMemoryPull true file from room answer = answer ≡ Failed
IsMemoryPull false file from room answer = IsSteadyPull file from room answer

-- a put that fails, and any other, which takes what a steady sink takes
abbrev pub IsMemoryPut : (fails : Bool) (amount : ℕ) (answer : PutDone) → Type 0
IsMemoryPut true amount answer = answer ≡ put.Failed
IsMemoryPut false amount answer = IsSteadyPut amount answer
