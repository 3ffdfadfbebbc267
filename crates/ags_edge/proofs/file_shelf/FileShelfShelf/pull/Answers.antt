use Rattle.std.proofs.Common.{◌≡◌, ◌≢◌, ◌≤◌, ◌+◌, ◌-◌, ◌^◌, min, ℕ, Bool, true, false, true≢false, Option, Some, None, is_some, option_map, IsSomeAnd, Result, Ok, Err, IfOk, IfErr, sym, ap, ◌∙◌, arith}
use Rattle.std.specs.Result.{result_err, result_ok}
use Rattle.ags_outside.specs.Count.{HasCause, Rose}
use Rattle.ags_outside.specs.Shelf.{GotWithin, absences_after, is_absent_pull, is_failed_pull}
use Rattle.ags_outside.specs.declared.shelves.Pull.{Pull}
use Rattle.ags_outside.specs.declared.shelves.Pull.TheVariants.{Got, End, Absent, Failed, NoMemory}
use Rattle.ags_edge.specs.Answers.{count_of, faults_after}
use Rattle.ags_edge.proofs.file_shelf.FileShelfShelf.pull.Goals as goal

-- a count that is one more, up to the last value of a counter, rose
one_more : (before now : ℕ) → now ≡ min (before + 1) (2 ^ 64 - 1) → before ≤ now → Rose before now
one_more before now more stays = grind (arith, more, stays)

stays_on : (before read counted now : ℕ) → read ≡ before → read ≤ counted → now ≡ counted → before ≤ now
stays_on before read counted now same stays kept = omega (arith, same, stays, kept)

no_more : (before now : ℕ) → now ≡ before → HasCause before now false
no_more before now same = record { stays = omega (arith, same); cause = λ so. absurd (true≢false (sym so)); clean = λ _. same }

faults_caused : (before now : ℕ) (answer : Pull) → now ≡ faults_after before answer → before ≤ now → HasCause before now (is_failed_pull answer)
faults_caused before now (Got count) counted stays = no_more before now counted
faults_caused before now End counted stays = no_more before now counted
faults_caused before now Absent counted stays = no_more before now counted
faults_caused before now Failed counted stays =
    record { stays = stays; cause = λ _. one_more before now counted stays; clean = λ so. absurd (true≢false so) }
faults_caused before now NoMemory counted stays = no_more before now counted

absences_caused : (before now : ℕ) (answer : Pull) → now ≡ absences_after before answer → before ≤ now → HasCause before now (is_absent_pull answer)
absences_caused before now (Got count) counted stays = no_more before now counted
absences_caused before now End counted stays = no_more before now counted
absences_caused before now Absent counted stays =
    record { stays = stays; cause = λ _. one_more before now counted stays; clean = λ so. absurd (true≢false so) }
absences_caused before now Failed counted stays = no_more before now counted
absences_caused before now NoMemory counted stays = no_more before now counted

-- bytes that were got are those of the read
abbrev count_or_none : Option ℕ → ℕ
count_or_none None = 0
count_or_none (Some count) = count

abbrev is_end : Pull → Bool
is_end End = true
is_end _ = false

read_got : {E : Type 0} (room count : ℕ) (read : Result ℕ E) → IfOk read (λ given. given ≤ room) → (read ≡ Ok 0 → Got count ≡ End) → Some count ≡ result_ok read
    → GotWithin room (Got count)
read_got room count (Ok given) within end is =
    let same : count ≡ given = ap count_or_none is in
    let none : given ≡ 0 → ⊥ = λ zero. true≢false (sym (ap is_end (end (ap Ok zero)))) in
    (omega (arith, same, none), omega (arith, same, within))
read_got room count (Err error) within end is = absurd (true≢false (ap is_some is))

read_within : {E : Type 0} (room : ℕ) (read : Result ℕ E) (answer : Pull) → IfOk read (λ given. given ≤ room) → (read ≡ Ok 0 → answer ≡ End) → count_of answer ≡ result_ok read
    → GotWithin room answer
read_within room read (Got count) within end is = read_got room count read within end is
read_within room read End within end is = tt
read_within room read Absent within end is = tt
read_within room read Failed within end is = tt
read_within room read NoMemory within end is = tt

-- a failure has a reason that makes one
failing_reason : {E K : Type 0} (kind : E → K) (not_found no_memory : K) (read : Result ℕ E) (answer : Pull) → count_of answer ≡ result_ok read
    → IfErr read (λ error. kind error ≡ not_found → answer ≡ Absent) → IfErr read (λ error. kind error ≡ no_memory → answer ≡ NoMemory)
    → answer ≡ Failed → IsSomeAnd (option_map kind (result_err read)) (λ reason. (reason ≢ not_found) × (reason ≢ no_memory))
failing_reason kind not_found no_memory (Ok given) answer is absent memory failed = absurd (true≢false (sym (ap is_some (sym (ap count_of failed) ∙ is))))
failing_reason kind not_found no_memory (Err error) answer is absent memory failed = (
  λ so. true≢false (ap is_absent_pull (sym (absent so) ∙ failed)),
  λ so. true≢false (sym (ap is_failed_pull (sym (memory so) ∙ failed))),
)

pub returns : goal.returns
returns g c =
    let answer = c.answer_to-answer.result in
    let faults = faults_caused _ _ answer (c.keep_unread.ensures.faults ∙ c.count.ensures.faults ∙ ap (λ (was : ℕ). faults_after was answer) c.read_on-read.ensures.faults)
    (stays_on _ _ _ _ c.read_on-read.ensures.faults c.count.ensures.faults_stay c.keep_unread.ensures.faults) in
    let absences = absences_caused _ _ answer (c.keep_unread.ensures.absences ∙ c.count.ensures.absences ∙ ap (λ (was : ℕ). absences_after was answer) c.read_on-read.ensures.absences)
    (stays_on _ _ _ _ c.read_on-read.ensures.absences c.count.ensures.absences_stay c.keep_unread.ensures.absences) in
    record {
      got = read_within _ c.read_on-read.result answer c.read_on-read.ensures.count c.answer_to-answer.ensures.end c.answer_to-answer.ensures.count;
      faults_counted = c.keep_unread.ensures.faults ∙ c.count.ensures.faults ∙ ap (λ (was : ℕ). faults_after was answer) c.read_on-read.ensures.faults;
      absences_counted = c.keep_unread.ensures.absences ∙ c.count.ensures.absences ∙ ap (λ (was : ℕ). absences_after was answer) c.read_on-read.ensures.absences;
      absent = λ is. absences.cause (ap is_absent_pull is);
      failed = λ is. faults.cause (ap is_failed_pull is);
      faults = faults;
      absences = absences;
      unread = c.keep_unread.ensures.unread;
      unread_stays = λ other. c.keep_unread.ensures.unread_stays other ∙ c.count.ensures.unread ∙ c.read_on-read.ensures.unread;
      reason = λ is. rw (c.keep_unread.ensures.reason is, c.reason_of-reason.ensures)
          (failing_reason _ _ _ c.read_on-read.result answer c.answer_to-answer.ensures.count c.answer_to-answer.ensures.absent c.answer_to-answer.ensures.memory is);
      reason_stays = λ other. c.keep_unread.ensures.reason_stays other ∙ c.count.ensures.reason ∙ c.read_on-read.ensures.reason;
      «open» = rw (c.keep_unread.ensures.held, c.count.ensures.held, c.answer_to-answer.ensures.count) c.read_on-read.ensures.«open»;
      end = rw (c.keep_unread.ensures.held, c.count.ensures.held, c.answer_to-answer.ensures.count) (c.read_on-read.ensures.end c.requires);
      bytes = rw (c.keep_unread.ensures.held, c.count.ensures.held, c.answer_to-answer.ensures.count) c.read_on-read.ensures.bytes;
      source = rw (c.keep_unread.ensures.held, c.count.ensures.held, c.answer_to-answer.ensures.count) c.read_on-read.ensures.source;
    }
