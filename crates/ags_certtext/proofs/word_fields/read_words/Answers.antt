use Rattle.std.proofs.Common.{refl, inl, inr, arith}
use Rattle.ags_certtext.proofs.FrontLemmas.{some_also}
use Rattle.ags_certtext.proofs.WordLemmas.{gathered_more, gathered_found, gathered_only, all_words}
use Rattle.ags_certtext.proofs.word_fields.read_words.Goals as goal

pub returns-in_default-clause-found : goal.returns-in_default-clause-found
returns-in_default-clause-found c =
    some_also c.set_front.result
    (λ front is. gathered_found c.args.text.now c.loop-count.words c.loop-count.rest.now c.loop-count.count _ front.0 front.1.now c.loop-count.invariant refl is) c.set_front.ensures.found

pub returns-in_default-clause-only : goal.returns-in_default-clause-only
returns-in_default-clause-only c = λ value rest is ends.
    c.set_front.ensures.only value rest (gathered_only c.args.text.now c.loop-count.words c.loop-count.rest.now c.loop-count.count _ value rest c.loop-count.invariant refl
    (inl (λ word. let none = c.in_default.ensures.only word.0 (rw c.split_field.ensures.field word.1) in absurd (cc))) is ends)

pub loop-count-preserved : goal.loop-count-preserved
loop-count-preserved c = rw c.split_field.ensures.behind (
    gathered_more c.args.text.now c.loop-count.words c.loop-count.rest.now c.loop-count.count c.in-Some.word (omega arith) c.loop-count.invariant
    (rw (← c.split_field.ensures.field) c.in-Some.ensures.found))

pub returns-in-None-clause-found : goal.returns-in-None-clause-found
returns-in-None-clause-found c =
    some_also c.set_front-in-None.result
    (λ front is. gathered_found c.args.text.now c.loop-count.words c.loop-count.rest.now c.loop-count.count c.loop-count.words front.0 front.1.now c.loop-count.invariant
    (all_words c.args.text.now c.loop-count.words c.loop-count.rest.now c.loop-count.count c.loop-count.invariant (omega arith)) is) c.set_front-in-None.ensures.found

pub returns-in-None-clause-only : goal.returns-in-None-clause-only
returns-in-None-clause-only c = λ value rest is ends.
    c.set_front-in-None.ensures.only value rest (gathered_only c.args.text.now c.loop-count.words c.loop-count.rest.now c.loop-count.count c.loop-count.words value rest c.loop-count.invariant
    (all_words c.args.text.now c.loop-count.words c.loop-count.rest.now c.loop-count.count c.loop-count.invariant (omega arith)) (inr c.loop-count.invariant.long) is ends)

pub returns-in-None-clause-ends : goal.returns-in-None-clause-ends
returns-in-None-clause-ends c =
    some_also c.set_front-in-None.result
    (λ front is word. let none = c.read_word-2.ensures.only word.0 (rw (c.split_field-2.ensures.field, is.rest_is) word.1) in absurd (cc)) c.set_front-in-None.ensures.found

-- no set has more words than were gathered, after which a further one stands
pub returns-in-Some-read_word-clause-only : goal.returns-in-Some-read_word-clause-only
returns-in-Some-read_word-clause-only c = λ value rest is ends.
    let set = gathered_only c.args.text.now c.loop-count.words c.loop-count.rest.now c.loop-count.count c.loop-count.words value rest c.loop-count.invariant
    (all_words c.args.text.now c.loop-count.words c.loop-count.rest.now c.loop-count.count c.loop-count.invariant (omega arith)) (inr c.loop-count.invariant.long) is ends in
    absurd (ends (c.in-Some-read_word._word, rw (← set.rest_is, ← c.split_field-2.ensures.field) c.in-Some-read_word.ensures.found))
