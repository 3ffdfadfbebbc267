-- The walk is the same whatever devices are handed in: they decide what a work makes, and nothing else.
use Rattle.std.proofs.Common.{◌≡◌, ℕ, List, Option, Some, None, refl, ap, subst, inl, inr}
use Rattle.std.specs.Prelude.{Result, Ok, Err}
use Rattle.ags_device.specs.Record.{DeviceRecord}
use Rattle.ags_outside.specs.declared.sending.SendError.{SendError}
use Rattle.ags_plan.specs.declared.causes.Cause.{Cause}
use Rattle.ags_plan.specs.declared.causes.Cause.TheVariants.{Content, Absence, ReadFault, WriteFault, Memory}
use Rattle.ags_plan.specs.Outcome.{CountsOnShelf, ShelfStaysBy, StoppedAtAbsence}
use Rattle.ags_plan.specs.Plan.{Plan, End, Do, Read, Take, AbsentAt, LongAt, RefusedAt, WorkAt}
use Rattle.ags_plan.specs.Saying.{Says, IsEarly}
use Rattle.ags_plan.specs.Walk.{Told, Sight, Agrees, HoldsWithin, EndsAtBytes, EndsAt}
use Rattle.ags_program.specs.declared.status.Status.{Status}
use Rattle.ags_bench.specs.Files.{Kind, Value}
use Rattle.ags_bench.specs.Program.{program, plan_on, files_plan, asked_plan, plan_of}
use Rattle.ags_bench.specs.Words.{Asked, asked_of}

module _ (first second : List DeviceRecord) where
  over : Plan (program first) → Plan (program second)
  over (Do work) = Do work
  over (Read kind name next) = Read kind name (λ value. over (next value))
  over (Take kind name bytes next) = Take kind name bytes (λ value. over (next value))

  -- the same end
  abbrev pub end_over : End (program first) → End (program second)
  end_over (AbsentAt name) = AbsentAt name
  end_over (LongAt name limit) = LongAt name limit
  end_over (RefusedAt line status) = RefusedAt line status
  end_over (WorkAt work) = WorkAt work

  holds_over : (kind : Kind) (bytes : List ℕ) (value : Value kind) → HoldsWithin (program first) kind bytes value → HoldsWithin (program second) kind bytes value
  holds_over kind bytes value holds = record { short = holds.short; holds = holds.holds }

  bytes_over : (See : Sight) (told : Told) (kind : Kind) (name bytes : List ℕ) (end : End (program first)) → EndsAtBytes (program first) See told kind name bytes end
      → EndsAtBytes (program second) See told kind name bytes (end_over end)
  bytes_over See told kind name bytes end (inl (long, is)) = inl (long, ap end_over is)
  bytes_over See told kind name bytes end (inr (line, refuses, is)) = inr (line, record { short = refuses.short; refuses = refuses.refuses }, ap end_over is)

  over_ends : (See : Sight) (told : Told) (plan : Plan (program first)) (end : End (program first)) → EndsAt (program first) See told plan end
      → EndsAt (program second) See told (over plan) (end_over end)
  unfolding over
  over_ends See told (Do work) end is = ap end_over is
  over_ends See told (Read kind name next) end (inl (inl (sees, is))) = inl (inl (sees, ap end_over is))
  over_ends See told (Read kind name next) end (inl (inr (bytes, sees, at))) = inl (inr (bytes, sees, bytes_over See told kind name bytes end at))
  over_ends See told (Read kind name next) end (inr (value, (bytes, sees, holds), later)) =
      inr (value, (bytes, sees, holds_over kind bytes value holds), over_ends See told (next value) end later)
  over_ends See told (Take kind name bytes next) end (inl at) = inl (bytes_over See told kind name bytes end at)
  over_ends See told (Take kind name bytes next) end (inr (value, holds, later)) = inr (value, holds_over kind bytes value holds, over_ends See told (next value) end later)

  over_on : (machine : Option (List ℕ)) (asked : Asked) → over (plan_on first machine (files_plan first asked)) ≡ plan_on second machine (files_plan second asked)
  unfolding over
  over_on None asked = refl
  over_on (Some name) asked = refl

  over_asked : (asked : Option Asked) → over (asked_plan first asked) ≡ asked_plan second asked
  unfolding over
  over_asked None = refl
  over_asked (Some asked) = over_on asked.machine asked

  pub ends_over : (See : Sight) (told : Told) (words : List (List ℕ)) (end : End (program first)) → EndsAt (program first) See told (plan_of first words) end
      → EndsAt (program second) See told (plan_of second words) (end_over end)
  ends_over See told words end ends =
      subst (λ (plan : Plan (program second)). EndsAt (program second) See told plan (end_over end)) (over_asked (asked_of words)) (over_ends See told (plan_of first words) end ends)

  -- what is said of an end before any work
  pub says_over : (end : End (program first)) (old new : Option (List ℕ)) (ended : Result Status SendError) → IsEarly end → Says (program first) end old new ended
      → Says (program second) (end_over end) old new ended
  says_over (AbsentAt name) old new (Ok status) early says = record { text = says.text; comes = says.comes; sent = says.sent }
  says_over (AbsentAt name) old new (Err error) early (inl part) = inl (record { text = part.text; status = part.status; comes = part.comes; prefix = part.prefix })
  says_over (AbsentAt name) old new (Err error) early (inr same) = inr same
  says_over (LongAt name limit) old new (Ok status) early says = record { text = says.text; comes = says.comes; sent = says.sent }
  says_over (LongAt name limit) old new (Err error) early (inl part) = inl (record { text = part.text; status = part.status; comes = part.comes; prefix = part.prefix })
  says_over (LongAt name limit) old new (Err error) early (inr same) = inr same
  says_over (RefusedAt line refused) old new (Ok status) early says = record { text = says.text; comes = says.comes; sent = says.sent }
  says_over (RefusedAt line refused) old new (Err error) early (inl part) = inl (record { text = part.text; status = part.status; comes = part.comes; prefix = part.prefix })
  says_over (RefusedAt line refused) old new (Err error) early (inr same) = inr same
  says_over (WorkAt work) old new ended early says = absurd early

  -- the counts of the shelf
  stopped_over : (told : Told) (words : List (List ℕ)) (old new : Option (List ℕ)) (status : Status) → StoppedAtAbsence (program first) told (plan_of first words) old new status
      → StoppedAtAbsence (program second) told (plan_of second words) old new status
  stopped_over told words old new status stopped = record { name = stopped.name; ends = ends_over Agrees told words (AbsentAt stopped.name) stopped.ends; prefix = stopped.prefix }

  module _ (told : Told) (words : List (List ℕ)) (old new : Option (List ℕ)) (status : Status) (faults_stayed absences_stayed : Type 0) where
    stays_over : (cause : Cause) → ShelfStaysBy (program first) told (plan_of first words) old new status cause faults_stayed absences_stayed
        → ShelfStaysBy (program second) told (plan_of second words) old new status cause faults_stayed absences_stayed
    stays_over Content stays = stays
    stays_over Absence stays = stays
    stays_over ReadFault stays = stays
    stays_over WriteFault (faults, inl stayed) = (faults, inl stayed)
    stays_over WriteFault (faults, inr stopped) = (faults, inr (stopped_over told words old new status stopped))
    stays_over Memory (faults, inl stayed) = (faults, inl stayed)
    stays_over Memory (faults, inr stopped) = (faults, inr (stopped_over told words old new status stopped))

  pub counts_over : (told : Told) (words : List (List ℕ)) (old new : Option (List ℕ)) (status : Status) (faults faults_now absences absences_now : ℕ)
      → CountsOnShelf (program first) told (plan_of first words) old new status faults faults_now absences absences_now
      → CountsOnShelf (program second) told (plan_of second words) old new status faults faults_now absences absences_now
  counts_over told words old new status faults faults_now absences absences_now counts = record {
    absent_cause = counts.absent_cause;
    read_fault = counts.read_fault;
    clean = stays_over told words old new status (faults_now ≡ faults) (absences_now ≡ absences) ((program first).cause status) counts.clean;
  }
