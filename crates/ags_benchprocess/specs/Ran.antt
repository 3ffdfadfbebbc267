-- What a run of the program comes to: the bench with the program's three devices, and the end of its output.
use Rattle.std.specs.Prelude.{◌≡◌, ◌⊎◌, ℕ, List, ◌∷◌, Option, Some, None}
use Rattle.ags_bench.specs.Promises.{Counts, Promises}
use Rattle.ags_program.specs.declared.status.Status.{Status}
use Rattle.ags_program.specs.declared.status.Status.TheVariants.{WriteFault, NoMemory}
use Rattle.ags_device.specs.Record.{DeviceRecord}
use Rattle.ags_outside.specs.Count.{Rose}
use Rattle.ags_plan.specs.Walk.{Told}
use Rattle.ags_benchprocess.specs.Devices.{three_devices}

-- The bench was run over the words with the three devices, and all holds that is promised of its one call.
pub record RunsThree (told : Told) (words : List (List ℕ)) (old new : Option (List ℕ)) (status : Status) (counts : Counts) : Type 0 where
  pub left : List DeviceRecord
  pub promises : Promises (record { told = told; words = words; old = old; new = new; devices = three_devices; devices_now = left; result = status }) counts

-- nothing was read and nothing sent
abbrev pub IsUnbegun : (old new : Option (List ℕ)) → Counts → Type 0
IsUnbegun old new counts = (new ≡ old) × (counts.faults_now ≡ counts.faults) × (counts.absences_now ≡ counts.absences)
    × (counts.sink_faults_now ≡ counts.sink_faults)

-- The bench was run with the three devices; or memory was wanting for the words or the devices, and it was not begun.
abbrev pub RanThree : Told → (words : List (List ℕ)) → (old new : Option (List ℕ)) → Status → Counts → Type 0
RanThree told words old new status counts = RunsThree told words old new status counts ⊎ ((status ≡ NoMemory) × IsUnbegun old new counts)

-- The bench came to a status, and then the sink was finished: what it held was written without a further fault, and the run ends with
-- that status; or it wasn't, the sink failed once more, and the run ends with the status of that.
pub record EndsThree (told : Told) (words : List (List ℕ)) (old new : Option (List ℕ)) (result : Status) (counts : Counts) (Written : Type 0) : Type 0 where
  pub status : Status
  pub failures : ℕ
  pub ran : RanThree told words old new status (record counts { sink_faults_now = failures })
  pub ended : ((result ≡ status) × (counts.sink_faults_now ≡ failures) × Written) ⊎ ((result ≡ WriteFault) × Rose failures counts.sink_faults_now)

-- the second of words, where there are so many
abbrev pub second_word : List (List ℕ) → Option (List ℕ)
second_word (first ∷ second ∷ more) = Some second
second_word _ = None
