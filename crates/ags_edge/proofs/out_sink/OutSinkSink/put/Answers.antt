use Rattle.std.proofs.Common.{Option, Some, None, Result, Ok, Err, IfOk, IfErr, option_map, List, take, ◌++◌, append-nil, ap, ◌∙◌, ◌≡◌, ◌≢◌, ◌<◌, ◌≤◌, Bool, ◌+◌, ◌-◌, ◌^◌, min, ℕ, true, false, refl, sym, rules, arith}
use Rattle.std.proofs.lemmas.Bool.{true≢false}
use Rattle.ags_outside.specs.declared.sinks.PutDone.{PutDone}
use Rattle.ags_outside.specs.declared.sinks.PutDone.TheVariants.{Took, Failed, NoMemory}
use Rattle.std.specs.Io.KnownBytes.{Appends, Keeps, WriteAppends}
use Rattle.std.specs.IoError.{error_kind}
use Rattle.std.specs.Option.{unwrap_or}
use Rattle.std.specs.Result.{result_err}
use Rattle.std.specs.declared.io.ErrorKind.{ErrorKind}
use Rattle.ags_outside.specs.Count.{HasCause}
use Rattle.ags_outside.specs.Sink.{TookWithin, is_failed_put}
use Rattle.ags_edge.specs.Answers.{PutAppends, put_faults_after}
use Rattle.ags_edge.proofs.out_sink.OutSinkSink.put.Given.{Over}
use Rattle.ags_edge.proofs.out_sink.OutSinkSink.put.Goals as goal

-- ---- a failure

failed : (g : Over) (c : goal.After-self-then-eq-1 g) → c.answer_to-answer.result ≡ Failed
failed g c = search rules

one_more : (before now : ℕ) → now ≡ min (before + 1) (2 ^ 64 - 1) → before < 2 ^ 64 → HasCause before now true
one_more before now more fits = record {
  stays = omega (arith, more, fits);
  cause = λ _. grind (arith, more, fits);
  clean = λ so. absurd (true≢false so);
}

-- a write that took nothing leaves the known bytes
nothing_keeps : (old new : Option (List ℕ)) (piece : List ℕ) (count : ℕ) → count ≡ 0 → Appends old new (take count piece) → Keeps old new
nothing_keeps None new piece count none appends = tt
nothing_keeps (Some held) None piece count none appends = absurd appends
nothing_keeps (Some held) (Some now) piece count none appends = appends ∙ ap (λ (some : ℕ). held ++ take some piece) none ∙ append-nil held

failed_keeps : {E : Type 0} (old new : Option (List ℕ)) (piece : List ℕ) (write : Result ℕ E) (answer : PutDone) → answer ≡ Failed
    → IfOk write (λ count. 0 < count → answer ≡ Took count) → WriteAppends old new write piece → Keeps old new
failed_keeps old new piece (Ok count) answer is took appends =
    let none : 0 < count → ⊥ = λ some. true≢false (ap is_failed_put (sym is ∙ took some)) in
    nothing_keeps old new piece count (omega (arith, none)) appends
failed_keeps old new piece (Err error) answer is took appends = appends

-- the reason of a failure isn't want of memory
failing_reason : {E K : Type 0} (kind : E → K) (zero memory reason : K) (write : Result ℕ E) (answer : PutDone) → zero ≢ memory → answer ≡ Failed
    → IfErr write (λ error. kind error ≡ memory → answer ≡ NoMemory) → reason ≡ unwrap_or (option_map kind (result_err write)) zero → reason ≡ memory → ⊥
failing_reason kind zero memory reason (Ok count) answer differs is wants so same = differs (sym so ∙ same)
failing_reason kind zero memory reason (Err error) answer differs is wants so same = true≢false (ap is_failed_put (sym is ∙ wants (sym so ∙ same)))

zero_other : ErrorKind.WriteZero ≢ ErrorKind.OutOfMemory
zero_other = λ same. absurd cc

pub returns-then-eq : goal.returns-then-eq
returns-then-eq g c =
    let is = failed g c in
    let fits : c.args.self.now.faults < 2 ^ 64 = omega arith in
    let counted = c.saturating_add-self.ensures ∙ ap (λ (was : ℕ). min (was + 1) (2 ^ 64 - 1)) c.keep_last.ensures.faults in
    let faults = one_more c.args.self.now.faults c.saturating_add-self.result counted fits in
    record {
      took = rw is tt;
      bytes = rw (is, c.keep_last.ensures.out)
          (failed_keeps _ _ c.args.piece.now c.write-written.result c.answer_to-answer.result is c.answer_to-answer.ensures.took c.write-written.ensures.bytes);
      failed = λ _. faults.cause refl;
      faults = rw is faults;
      counted = rw is counted;
      last = c.keep_last.ensures.last;
      reason = λ _. failing_reason error_kind ErrorKind.WriteZero ErrorKind.OutOfMemory c.unwrap_or.result c.write-written.result c.answer_to-answer.result zero_other is
          c.answer_to-answer.ensures.memory (c.unwrap_or.ensures ∙ ap (λ reason. unwrap_or reason ErrorKind.WriteZero) c.reason_of-reason.ensures);
      reason_stays = λ other. absurd (other is);
    }

-- ---- none

unfailed : (g : Over) (c : goal.Else-eq g) → c.answer_to-answer.result ≢ Failed
unfailed g c = search rules

failed_not : (answer : PutDone) → answer ≢ Failed → is_failed_put answer ≡ false
failed_not (Took count) other = refl
failed_not Failed other = absurd (other refl)
failed_not NoMemory other = refl

counted_not : (was : ℕ) (answer : PutDone) → answer ≢ Failed → put_faults_after was answer ≡ was
counted_not was (Took count) other = refl
counted_not was Failed other = absurd (other refl)
counted_not was NoMemory other = refl

-- what was taken is what was written, whatever the write came to
abbrev taken : PutDone → ℕ
taken (Took count) = count
taken _ = 0

abbrev is_took : PutDone → Bool
is_took (Took count) = true
is_took _ = false

written : {E : Type 0} (wanting : E → Type 0) (count : ℕ) (write : Result ℕ E) → (write ≡ Ok 0 → Took count ≡ Failed)
    → IfOk write (λ given. 0 < given → Took count ≡ Took given) → IfErr write (λ error. wanting error → Took count ≡ NoMemory)
    → IfErr write (λ error. (wanting error → ⊥) → Took count ≡ Failed) → (write ≡ Ok count) × (0 < count)
written wanting count (Ok given) nothing took wants fails =
    let some : given ≡ 0 → ⊥ = λ none. true≢false (ap is_took (nothing (ap Ok none))) in
    let more : 0 < given = omega (arith, some) in
    let same : given ≡ count = sym (ap taken (took more)) in
    (ap Ok same, omega (arith, same, more))
written wanting count (Err error) nothing took wants fails =
    absurd (true≢false (ap is_took (fails (λ so. true≢false (ap is_took (wants so))))))

put_within : {E : Type 0} (wanting : E → Type 0) (long : ℕ) (write : Result ℕ E) (answer : PutDone) → (write ≡ Ok 0 → answer ≡ Failed)
    → IfOk write (λ given. 0 < given → answer ≡ Took given) → IfErr write (λ error. wanting error → answer ≡ NoMemory)
    → IfErr write (λ error. (wanting error → ⊥) → answer ≡ Failed) → IfOk write (λ given. given ≤ long) → TookWithin long answer
put_within wanting long write (Took count) nothing took wants fails within =
    let w = written wanting count write nothing took wants fails in
    (w.1, rw w.0 at within)
put_within wanting long write Failed nothing took wants fails within = tt
put_within wanting long write NoMemory nothing took wants fails within = tt

no_memory_keeps : {E : Type 0} (old new : Option (List ℕ)) (piece : List ℕ) (write : Result ℕ E) → (write ≡ Ok 0 → NoMemory ≡ Failed)
    → IfOk write (λ given. 0 < given → NoMemory ≡ Took given) → WriteAppends old new write piece → Keeps old new
no_memory_keeps old new piece (Ok given) nothing took appends =
    let none : 0 < given → ⊥ = λ some. true≢false (ap is_took (sym (took some))) in
    nothing_keeps old new piece given (omega (arith, none)) appends
no_memory_keeps old new piece (Err error) nothing took appends = appends

put_appends : {E : Type 0} (wanting : E → Type 0) (old new : Option (List ℕ)) (piece : List ℕ) (write : Result ℕ E) (answer : PutDone) → (write ≡ Ok 0 → answer ≡ Failed)
    → IfOk write (λ given. 0 < given → answer ≡ Took given) → IfErr write (λ error. wanting error → answer ≡ NoMemory)
    → IfErr write (λ error. (wanting error → ⊥) → answer ≡ Failed) → WriteAppends old new write piece → PutAppends old new piece answer
put_appends wanting old new piece write (Took count) nothing took wants fails appends = rw (written wanting count write nothing took wants fails).0 at appends
put_appends wanting old new piece write Failed nothing took wants fails appends = failed_keeps old new piece write Failed refl took appends
put_appends wanting old new piece write NoMemory nothing took wants fails appends = no_memory_keeps old new piece write nothing took appends

pub returns-else-eq : goal.returns-else-eq
returns-else-eq g c =
    let other = unfailed g c in
    record {
      took = put_within (λ error. error_kind error ≡ ErrorKind.OutOfMemory) _ c.write-written.result c.answer_to-answer.result
          c.answer_to-answer.ensures.nothing c.answer_to-answer.ensures.took c.answer_to-answer.ensures.memory c.answer_to-answer.ensures.failed c.write-written.ensures.bound;
      bytes = rw c.keep_last.ensures.out
          (put_appends (λ error. error_kind error ≡ ErrorKind.OutOfMemory) _ _ c.args.piece.now c.write-written.result c.answer_to-answer.result
          c.answer_to-answer.ensures.nothing c.answer_to-answer.ensures.took c.answer_to-answer.ensures.memory c.answer_to-answer.ensures.failed c.write-written.ensures.bytes);
      failed = λ is. absurd (other is);
      faults = rw (c.keep_last.ensures.faults, failed_not c.answer_to-answer.result other) (record { stays = omega arith; cause = λ so. absurd (true≢false (sym so)); clean = λ _. refl });
      counted = rw (c.keep_last.ensures.faults, counted_not c.args.self.now.faults c.answer_to-answer.result other) refl;
      last = c.keep_last.ensures.last;
      reason = λ is. absurd (other is);
      reason_stays = λ _. c.keep_last.ensures.reason;
    }
