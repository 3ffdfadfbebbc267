-- What a run of a program comes to: its status, and what the sink took.
use Rattle.std.specs.Prelude.{◌≡◌, ◌⊎◌, ℕ, ◌<◌, List, length, Option, None}
use Rattle.ags_outside.specs.Count.{Rose}
use Rattle.ags_outside.specs.ToldFile.{Missing}
use Rattle.ags_outside.specs.Sink.{appended, WroteFront}
use Rattle.ags_plan.specs.declared.causes.Cause.{Cause}
use Rattle.ags_plan.specs.declared.causes.Cause.TheVariants.{Content, Absence, ReadFault, WriteFault, Memory}
use Rattle.ags_plan.specs.declared.causes.Stop.TheVariants as stop
use Rattle.ags_plan.specs.Plan.{Definition, Plan, AbsentAt, WorkAt, absent_line, long_line}
use Rattle.ags_plan.specs.Walk.{Told, Agrees, Tells, RefusesWithin, EndsAt, IsFetched, IsGiven}

-- a cause that stops a run, whatever its answer is: a fault of the outside, or want of memory
abbrev pub IsStopping : Cause → Type 0
IsStopping Content = ⊥
IsStopping Absence = ⊥
IsStopping _ = Unit {0}

-- a status that a fault of the outside or want of memory brings, whatever the answer is
abbrev pub Stops : {Status : Type 0} (D : Definition Status) → Status → Type 0
Stops D status = IsStopping (D.cause status)

-- the run ends with that status, unless it stops
abbrev pub EndsWith : {Status : Type 0} (D : Definition Status) (result status : Status) → Type 0
EndsWith D result status = (result ≡ status) ⊎ Stops D result

-- the status and what the sink took are these, unless the run stops
abbrev pub EndsExactly : {Status : Type 0} (D : Definition Status) (old new : Option (List ℕ)) (result : Status) (text : List ℕ) (status : Status) → Type 0
EndsExactly D old new result text status = ((result ≡ status) × (new ≡ appended old text)) ⊎ Stops D result

-- The sink took all of an answer's text.
pub record Answered {Status : Type 0} (Answer : List ℕ → Status → Type 0) (old new : Option (List ℕ)) (status : Status) : Type 0 where
  pub text : List ℕ
  pub answer : Answer text status
  pub sent : new ≡ appended old text

-- The sink took a prefix of an answer's text.
pub record TookPrefix {Status : Type 0} (Answer : List ℕ → Status → Type 0) (old new : Option (List ℕ)) : Type 0 where
  pub status : Status
  pub text : List ℕ
  pub answer : Answer text status
  pub prefix : WroteFront old new text

-- By what the status comes of: a file couldn't be read, and the sink took nothing; or the output couldn't be written or memory
-- ran out, and the sink took a prefix of an answer's text; or the status and what the sink took are those of an answer.
abbrev pub EndsBy : {Status : Type 0} → Cause → (Answer : List ℕ → Status → Type 0) (old new : Option (List ℕ)) → Status → Type 0
EndsBy ReadFault Answer old new status = new ≡ old
EndsBy WriteFault Answer old new status = TookPrefix Answer old new
EndsBy Memory Answer old new status = TookPrefix Answer old new
EndsBy _ Answer old new status = Answered Answer old new status

-- what a run with this status comes to
abbrev pub Ends : {Status : Type 0} (D : Definition Status) (Answer : List ℕ → Status → Type 0) (old new : Option (List ℕ)) → Status → Type 0
Ends D Answer old new status = EndsBy (D.cause status) Answer old new status

module _ {Status : Type 0} (D : Definition Status) (told : Told) (plan : Plan D) (old new : Option (List ℕ)) (result : Status) where
  -- Over files that agree with what the shelf tells, the walk looks for a file that is absent, and the sink took the line that
  -- says so.
  pub record FindsAbsence : Type 0 where
    pub kind : D.Kind
    pub name : List ℕ
    pub fetched : IsFetched D Agrees told plan kind name
    pub agrees : Agrees (told name) None
    pub sent : new ≡ appended old (absent_line name)

  -- the status of an absent file comes exactly where a file that is fetched is absent, whose name is printed
  pub record AbsentExactly : Type 0 where
    pub only : result ≡ D.status_of stop.Absent → FindsAbsence
    pub always : (kind : D.Kind) (name : List ℕ) → IsFetched D Tells told plan kind name → told name ≡ Missing
        → EndsWith D result (D.status_of stop.Absent)

  -- Over files that agree with what the shelf tells, the walk comes to a file that is longer than its limit, and the sink took
  -- the line that says so.
  pub record FindsLong : Type 0 where
    pub kind : D.Kind
    pub name : List ℕ
    pub bytes : List ℕ
    pub given : IsGiven D Agrees told plan kind name bytes
    pub long : D.limit kind < length bytes
    pub sent : new ≡ appended old (long_line name (D.limit kind))

  -- the status of a long file comes exactly where the walk comes to a file that is longer than its limit; its name and the limit
  -- are printed
  pub record LongExactly : Type 0 where
    pub only : result ≡ D.status_of stop.TooLong → FindsLong
    pub always : (kind : D.Kind) (name bytes : List ℕ) → IsGiven D Tells told plan kind name bytes → D.limit kind < length bytes
        → EndsWith D result (D.status_of stop.TooLong)

  -- Over files that agree with what the shelf tells, the walk comes to a file that is refused with this status, and the sink took
  -- its line.
  pub record FindsRefusal (status : Status) : Type 0 where
    pub kind : D.Kind
    pub status_is : D.refused kind ≡ status
    pub name : List ℕ
    pub bytes : List ℕ
    pub given : IsGiven D Agrees told plan kind name bytes
    pub line : List ℕ
    pub refuses : RefusesWithin D kind bytes line
    pub sent : new ≡ appended old line

  -- the status of refused files of a kind comes exactly where the walk comes to a file that is refused with it; its line is printed
  pub record RefusedExactly (kind : D.Kind) : Type 0 where
    pub only : result ≡ D.refused kind → FindsRefusal (D.refused kind)
    pub always : (name bytes line : List ℕ) → IsGiven D Tells told plan kind name bytes → RefusesWithin D kind bytes line
        → EndsWith D result (D.refused kind)

  -- where the shelf tells the files that lead to a work, the status and the bytes are those that it makes
  abbrev pub WorkExactly : Type 0
  WorkExactly = (work : D.Work) (text : List ℕ) (status : Status) → EndsAt D Tells told plan (WorkAt work) → D.Makes work text status
      → EndsExactly D old new result text status

  -- An absent file is where the walk ends, and the sink took a prefix of its line.
  pub record StoppedAtAbsence : Type 0 where
    pub name : List ℕ
    pub ends : EndsAt D Agrees told plan (AbsentAt name)
    pub prefix : WroteFront old new (absent_line name)

  -- Of the shelf's counts, by what the status comes of: that of faults stayed, unless a file couldn't be read, and that of absent
  -- files, unless an absent file is where the walk ends.
  abbrev pub ShelfStaysBy : Cause → (faults_stayed absences_stayed : Type 0) → Type 0
  ShelfStaysBy Content faults_stayed absences_stayed = faults_stayed × absences_stayed
  ShelfStaysBy Absence faults_stayed absences_stayed = faults_stayed
  ShelfStaysBy ReadFault faults_stayed absences_stayed = absences_stayed
  ShelfStaysBy _ faults_stayed absences_stayed = faults_stayed × (absences_stayed ⊎ StoppedAtAbsence)

  -- what a run with this result leaves of the shelf's counts as it was
  abbrev pub IsCleanOnShelf : (faults_stayed absences_stayed : Type 0) → Type 0
  IsCleanOnShelf faults_stayed absences_stayed = ShelfStaysBy (D.cause result) faults_stayed absences_stayed

  -- What a run with this result did to the shelf's counts: the one that its cause counts rose, and what it leaves stayed.
  pub record CountsOnShelf (faults faults_now absences absences_now : ℕ) : Type 0 where
    pub absent_cause : D.cause result ≡ Absence → Rose absences absences_now
    pub read_fault : D.cause result ≡ ReadFault → Rose faults faults_now
    pub clean : IsCleanOnShelf (faults_now ≡ faults) (absences_now ≡ absences)

-- Of the sink's count of faults, by what the status comes of: it stayed, unless the output couldn't be written.
abbrev pub SinkStaysBy : Cause → (faults_stayed : Type 0) → Type 0
SinkStaysBy WriteFault faults_stayed = Unit {0}
SinkStaysBy _ faults_stayed = faults_stayed

-- what a run with this result leaves of the sink's count as it was
abbrev pub IsCleanOnSink : {Status : Type 0} (D : Definition Status) (result : Status) (faults_stayed : Type 0) → Type 0
IsCleanOnSink D result faults_stayed = SinkStaysBy (D.cause result) faults_stayed

-- What a run with this result did to the sink's count of faults.
pub record CountsOnSink {Status : Type 0} (D : Definition Status) (result : Status) (faults faults_now : ℕ) : Type 0 where
  pub write_fault : D.cause result ≡ WriteFault → Rose faults faults_now
  pub clean : IsCleanOnSink D result (faults_now ≡ faults)
