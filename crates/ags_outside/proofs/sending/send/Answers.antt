use Rattle.std.proofs.Common.{◌≡◌, ◌∙◌, ◌==◌, ℕ, List, [], Bool, true, false, true≢false, Option, length, ap, sym, arith, refl, length-drop, rules}
use Rattle.std.proofs.lemmas.List.{take_all, nil_from_length}
use Rattle.ags_outside.specs.Send.{is_write_fault}
use Rattle.ags_outside.specs.Sink.{Wrote, wrote_nothing, wrote_of_nothing, wrote_part, wrote_all}
use Rattle.ags_outside.proofs.SoFar.{counted_last, counted_none}
use Rattle.ags_outside.proofs.sending.send.Goals as goal

-- what `is_empty` says of what is left
none_left : (rest : List ℕ) (empty : Bool) → empty ≡ true → empty ≡ (length rest == 0) → rest ≡ []
none_left rest empty test is = search (nil_from_length, rules)

some_left : {old new : Option (List ℕ)} {text rest : List ℕ} (empty : Bool) → empty ≡ false → empty ≡ (length rest == 0)
    → Wrote old new text rest → text ≡ [] → ⊥
some_left empty test is wrote none =
    true≢false (sym (is ∙ ap (λ (long : ℕ). long == 0) (wrote_of_nothing wrote none)) ∙ test)

pub loop-rest-init : goal.loop-rest-init
loop-rest-init g c = record {
  wrote = wrote_nothing (g.K.Sink.told c.args.out.now) c.args.bytes.now;
  faults_stay = refl;
  nothing = λ _. refl;
}

pub loop-rest-preserved : goal.loop-rest-preserved
loop-rest-preserved g c = record {
  wrote = wrote_part c.in-Took.count c.loop-rest.invariant.wrote (take_all _ _ (simp length-drop (omega arith)))
      c.in-Took.ensures.taken;
  faults_stay = c.in-Took.ensures.faults.clean refl ∙ c.loop-rest.invariant.faults_stay;
  nothing = λ none. absurd (some_left c.is_empty.result c.loop-rest-test.true c.is_empty.ensures c.loop-rest.invariant.wrote none);
}

pub returns : goal.returns
returns g c = record {
  sent = wrote_all (rw (none_left c.loop-rest.rest.now c.is_empty.result c.loop-rest-test.false c.is_empty.ensures) at c.loop-rest.invariant.wrote);
  front = tt;
  write_fault = λ is. (counted_none _ _ c.loop-rest.invariant.faults_stay).cause (ap is_write_fault is);
  faults = counted_none _ _ c.loop-rest.invariant.faults_stay;
  nothing = λ none. (refl, c.loop-rest.invariant.nothing none);
}

pub returns-in-Failed : goal.returns-in-Failed
returns-in-Failed g c =
    let w = c.loop-rest.invariant.wrote in
    let faults = counted_last _ _ _ _ c.loop-rest.invariant.faults_stay c.in-Failed.ensures.faults in
    record {
      sent = tt;
      front = record { rest = c.loop-rest.rest.now; wrote = record { done = w.done; told = c.in-Failed.ensures.taken ∙ w.told; whole = w.whole } };
      write_fault = λ is. faults.cause (ap is_write_fault is);
      faults = faults;
      nothing = λ none. absurd (some_left c.is_empty.result c.loop-rest-test.true c.is_empty.ensures w none);
    }

pub returns-in-NoMemory : goal.returns-in-NoMemory
returns-in-NoMemory g c =
    let w = c.loop-rest.invariant.wrote in
    let faults = counted_last _ _ _ _ c.loop-rest.invariant.faults_stay c.in-NoMemory.ensures.faults in
    record {
      sent = tt;
      front = record { rest = c.loop-rest.rest.now; wrote = record { done = w.done; told = c.in-NoMemory.ensures.taken ∙ w.told; whole = w.whole } };
      write_fault = λ is. faults.cause (ap is_write_fault is);
      faults = faults;
      nothing = λ none. absurd (some_left c.is_empty.result c.loop-rest-test.true c.is_empty.ensures w none);
    }
