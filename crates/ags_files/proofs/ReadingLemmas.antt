-- Readings, and what loaders answer by them. For the proofs of programs above stand here
--     reading_loads   a file that is loaded by a reading is one of a kind of a program's plans that reads as the reading does
--     reading_takes   and so are bytes that the program makes itself
use Rattle.std.proofs.Common.{◌≡◌, ℕ, ◌<◌, ◌≤◌, Bool, false, List, length, Some, Result, Ok, Err, refl, inl, inr, sym, subst, ap, ◌∙◌}
use Rattle.std.specs.Result.{result_map_both}
use Rattle.ags_outside.specs.Count.{HasCause}
use Rattle.ags_outside.specs.ToldFile.{ToldFile}
use Rattle.ags_plan.specs.declared.unloaded.Unloaded.{Unloaded}
use Rattle.ags_plan.specs.declared.unloaded.Unloaded.TheVariants.{Absent, TooLong, Refused, ReadFault, NoMemory}
use Rattle.ags_plan.specs.Loading.{FetchesFile, LoadsFile, TakesBytes, end_of, is_absence, is_read_fault}
use Rattle.ags_plan.specs.Plan.{Definition, AbsentAt, RefusedAt}
use Rattle.ags_plan.specs.Walk.{Told, Agrees, EndsAtBytes}
use Rattle.ags_files.specs.Reading.{Reading, ReadsAs, ReadsBytes, ReadsFile, with_refusal}

module _ {V E : Type 0} (reading : Reading V E) where
  -- a file that wasn't fetched isn't read
  pub fetch_stops : (told : ToldFile) (name : List ℕ) (why : Unloaded E) → FetchesFile told name reading.limit (Err why) → ReadsFile reading told name (Err why)
  fetch_stops told name (Absent absent) fetches = fetches
  fetch_stops told name (TooLong long most) fetches = fetches
  fetch_stops told name (Refused error) fetches = absurd fetches
  fetch_stops told name ReadFault fetches = tt
  fetch_stops told name NoMemory fetches = tt

  -- what was read of the bytes of a file is what the file holds
  pub file_reads : (told : ToldFile) (name bytes : List ℕ) (result : Result V (Unloaded E)) → Agrees told (Some bytes) → length bytes ≤ reading.limit
      → ReadsBytes reading bytes result → ReadsFile reading told name result
  file_reads told name bytes (Ok value) agrees short reads = (bytes, agrees, short, reads)
  file_reads told name bytes (Err (Refused error)) agrees short reads = (bytes, agrees, short, reads)
  file_reads told name bytes (Err (Absent absent)) agrees short reads = absurd reads
  file_reads told name bytes (Err (TooLong long most)) agrees short reads = absurd reads
  file_reads told name bytes (Err ReadFault) agrees short reads = tt
  file_reads told name bytes (Err NoMemory) agrees short reads = tt

  -- reading bytes meets no fault of a shelf
  no_fault : (bytes : List ℕ) (result : Result V (Unloaded E)) → ReadsBytes reading bytes result → is_read_fault result ≡ false
  no_fault bytes (Err ReadFault) reads = absurd reads
  no_fault bytes (Ok value) reads = refl
  no_fault bytes (Err (Refused error)) reads = refl
  no_fault bytes (Err (Absent absent)) reads = refl
  no_fault bytes (Err (TooLong long most)) reads = refl
  no_fault bytes (Err NoMemory) reads = refl

  -- nor an absent file
  no_absence : (bytes : List ℕ) (result : Result V (Unloaded E)) → ReadsBytes reading bytes result → is_absence result ≡ false
  no_absence bytes (Err (Absent absent)) reads = absurd reads
  no_absence bytes (Ok value) reads = refl
  no_absence bytes (Err (Refused error)) reads = refl
  no_absence bytes (Err (TooLong long most)) reads = refl
  no_absence bytes (Err ReadFault) reads = refl
  no_absence bytes (Err NoMemory) reads = refl

  -- so the counts of a file that was fetched stay, as far as reading goes
  pub faults_stay : (bytes : List ℕ) (result : Result V (Unloaded E)) (before now : ℕ) → ReadsBytes reading bytes result → HasCause before now false
      → HasCause before now (is_read_fault result)
  faults_stay bytes result before now reads counts = subst (λ (b : Bool). HasCause before now b) (sym (no_fault bytes result reads)) counts

  pub absences_stay : (bytes : List ℕ) (result : Result V (Unloaded E)) (before now : ℕ) → ReadsBytes reading bytes result → HasCause before now false
      → HasCause before now (is_absence result)
  absences_stay bytes result before now reads counts = subst (λ (b : Bool). HasCause before now b) (sym (no_absence bytes result reads)) counts

-- ---- a reading as a kind of a program's plans

module _ {Status V E R : Type 0} (reading : Reading V E) (D : Definition Status) (kind : D.Kind) (value_of : V → D.Value kind) (refusal_of : E → R)
    (line_of : R → List ℕ) (status_of : R → Status) (reads_as : ReadsAs reading D kind value_of refusal_of line_of status_of) where
  -- bytes that are short enough for the reading are so for the kind
  short_too : (bytes : List ℕ) → length bytes ≤ reading.limit → length bytes ≤ D.limit kind
  short_too bytes short = subst (λ (n : ℕ). length bytes ≤ n) (sym reads_as.limit) short

  -- how the walk ends at bytes that are refused
  refused_end : (told : Told) (name bytes : List ℕ) (error : E) → length bytes ≤ reading.limit → reading.Refuses bytes error
      → EndsAtBytes D Agrees told kind name bytes (RefusedAt (line_of (refusal_of error)) (status_of (refusal_of error)))
  refused_end told name bytes error short refuses = inr (
    line_of (refusal_of error),
    record { short = short_too bytes short; refuses = reads_as.refuses bytes error refuses },
    ap (λ (s : Status). RefusedAt (line_of (refusal_of error)) s) (reads_as.status error),
  )

  pub reading_loads : (told : Told) (name : List ℕ) (result : Result V (Unloaded E)) → ReadsFile reading (told name) name result
      → LoadsFile D told kind name (result_map_both value_of (end_of D line_of status_of) (with_refusal refusal_of result))
  reading_loads told name (Ok value) (bytes, agrees, short, holds) = (bytes, agrees, record { short = short_too bytes short; holds = reads_as.holds bytes value holds })
  reading_loads told name (Err (Refused error)) (bytes, agrees, short, refuses) = λ next. inr (bytes, agrees, refused_end told name bytes error short refuses)
  reading_loads told name (Err (Absent absent)) (is, agrees) = λ next. inl (agrees, ap (λ (n : List ℕ). AbsentAt n) is)
  reading_loads told name (Err (TooLong long most)) (is, limit, (bytes, agrees, longer)) = λ next.
      let same : most ≡ D.limit kind = limit ∙ sym reads_as.limit in
      inr (bytes, agrees, inl (subst (λ (n : ℕ). n < length bytes) (sym reads_as.limit) longer, cc))
  reading_loads told name (Err ReadFault) reads = tt
  reading_loads told name (Err NoMemory) reads = tt

  pub reading_takes : (told : Told) (name bytes : List ℕ) (result : Result V (Unloaded E)) → length bytes ≤ reading.limit → ReadsBytes reading bytes result
      → TakesBytes D told kind name bytes (result_map_both value_of (end_of D line_of status_of) (with_refusal refusal_of result))
  reading_takes told name bytes (Ok value) short holds = record { short = short_too bytes short; holds = reads_as.holds bytes value holds }
  reading_takes told name bytes (Err (Refused error)) short refuses = refused_end told name bytes error short refuses
  reading_takes told name bytes (Err (Absent absent)) short reads = absurd reads
  reading_takes told name bytes (Err (TooLong long most)) short reads = absurd reads
  reading_takes told name bytes (Err ReadFault) short reads = tt
  reading_takes told name bytes (Err NoMemory) short reads = tt

-- a count of a shelf is the same whatever a refusal is made of
pub faults_as : {V E R : Type 0} (refusal_of : E → R) (result : Result V (Unloaded E)) (before now : ℕ) → HasCause before now (is_read_fault result)
    → HasCause before now (is_read_fault (with_refusal refusal_of result))
faults_as refusal_of (Ok value) before now counts = counts
faults_as refusal_of (Err (Refused error)) before now counts = counts
faults_as refusal_of (Err (Absent absent)) before now counts = counts
faults_as refusal_of (Err (TooLong long most)) before now counts = counts
faults_as refusal_of (Err ReadFault) before now counts = counts
faults_as refusal_of (Err NoMemory) before now counts = counts

pub absences_as : {V E R : Type 0} (refusal_of : E → R) (result : Result V (Unloaded E)) (before now : ℕ) → HasCause before now (is_absence result)
    → HasCause before now (is_absence (with_refusal refusal_of result))
absences_as refusal_of (Ok value) before now counts = counts
absences_as refusal_of (Err (Refused error)) before now counts = counts
absences_as refusal_of (Err (Absent absent)) before now counts = counts
absences_as refusal_of (Err (TooLong long most)) before now counts = counts
absences_as refusal_of (Err ReadFault) before now counts = counts
absences_as refusal_of (Err NoMemory) before now counts = counts

-- and reading bytes at hand counts nothing
pub no_fault_as : {V E R : Type 0} (reading : Reading V E) (refusal_of : E → R) (bytes : List ℕ) (result : Result V (Unloaded E)) → ReadsBytes reading bytes result
    → is_read_fault (with_refusal refusal_of result) ≡ false
no_fault_as reading refusal_of bytes (Err ReadFault) reads = absurd reads
no_fault_as reading refusal_of bytes (Ok value) reads = refl
no_fault_as reading refusal_of bytes (Err (Refused error)) reads = refl
no_fault_as reading refusal_of bytes (Err (Absent absent)) reads = refl
no_fault_as reading refusal_of bytes (Err (TooLong long most)) reads = refl
no_fault_as reading refusal_of bytes (Err NoMemory) reads = refl

pub no_absence_as : {V E R : Type 0} (reading : Reading V E) (refusal_of : E → R) (bytes : List ℕ) (result : Result V (Unloaded E)) → ReadsBytes reading bytes result
    → is_absence (with_refusal refusal_of result) ≡ false
no_absence_as reading refusal_of bytes (Err (Absent absent)) reads = absurd reads
no_absence_as reading refusal_of bytes (Ok value) reads = refl
no_absence_as reading refusal_of bytes (Err (Refused error)) reads = refl
no_absence_as reading refusal_of bytes (Err (TooLong long most)) reads = refl
no_absence_as reading refusal_of bytes (Err ReadFault) reads = refl
no_absence_as reading refusal_of bytes (Err NoMemory) reads = refl
