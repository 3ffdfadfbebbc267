use Rattle.std.proofs.Common.{[], ◌∷◌, Some, None, refl, ◌∙◌, arith}
use Rattle.std.specs.Vec.{with_items}
use Rattle.std.proofs.lemmas.List.{length-append}
use Rattle.std.proofs.lemmas.Result.{err_from_is_err_and}
use Rattle.ags_asm.specs.declared.half_words.HalfWords.{HalfWords}
use Rattle.ags_asm.proofs.KeptLemmas.{keep_taken, keep_free, one_small, not_some, found_there, owned_there}
use Rattle.ags_asm.proofs.OwnedLemmas.{count_one, length-owned_from}
use Rattle.ags_asm.proofs.half_words.HalfWords.add_waiting.Goals as goal

pub returns-in-Some-clause-step : goal.returns-in-Some-clause-step
returns-in-Some-clause-step c = λ codes S cards before left card next made so.
    keep_taken codes S cards before left card c.args.self.now _ c.args.number c.args.at 1 [] (c.args.fix_up ∷ []) c.requires.not_met c.in_ok-push.ensures.items (one_small c.args.fix_up c.args.at c.requires.there c.requires.room) (omega arith)
    (omega (arith, c.requires.room)) next made so c.in-Some.fault
    (found_there c.deref.result.now c.args.self.now.owners.items c.args.at 1 c.first_taken.result (Some c.in-Some.fault) c.deref.ensures.value c.first_taken.ensures c.in-Some.is) so.whole refl

pub returns-clause-step : goal.returns-clause-step
returns-clause-step c = λ codes S cards before left card next made so.
    let now : HalfWords = record { image = c.args.self.now.image; owners = with_items c.args.self.now.owners c.own.new.owners; waiting = c.push.new.self; met = c.args.self.now.met } in
    keep_free codes S cards before left card c.args.self.now now c.args.number c.args.at 1 [] (c.args.fix_up ∷ []) c.requires.not_met c.in_ok-push.ensures.items (one_small c.args.fix_up c.args.at c.requires.there c.requires.room) (omega arith)
    (omega (arith, c.requires.room)) next made so
    (found_there c.deref.result.now c.args.self.now.owners.items c.args.at 1 c.first_taken.result None c.deref.ensures.value c.first_taken.ensures (not_some c.first_taken.result c.in_default.not-Some)) c.requires.whole refl so.whole
    (owned_there c.args.self.now.owners c.own.new.owners c.deref_mut.result.now c.args.at 1 c.args.number c.deref_mut.ensures.value c.own.ensures) c.requires.not_met

pub returns-in-Some-clause-few : goal.returns-in-Some-clause-few
returns-in-Some-clause-few c =
    rw c.in_ok-push.ensures.items (omega (arith, rw c.requires.not_met at c.requires.few, length-append c.args.self.now.waiting.items (c.args.fix_up ∷ [])))

pub returns-clause-few : goal.returns-clause-few
returns-clause-few c =
    let owned = owned_there c.args.self.now.owners c.own.new.owners c.deref_mut.result.now c.args.at 1 c.args.number c.deref_mut.ensures.value c.own.ensures in
    let free = found_there c.deref.result.now c.args.self.now.owners.items c.args.at 1 c.first_taken.result None c.deref.ensures.value c.first_taken.ensures (not_some c.first_taken.result c.in_default.not-Some) in
    rw (owned, c.in_ok-push.ensures.items) (omega (arith, c.requires.few, length-append c.args.self.now.waiting.items (c.args.fix_up ∷ []), count_one c.args.self.now.owners.items c.args.at c.args.number (omega (arith, c.requires.room, c.requires.whole)) c.requires.positive free))

pub returns-in_err-push-clause-whole : goal.returns-in_err-push-clause-whole
returns-in_err-push-clause-whole c = rw ((err_from_is_err_and c.from_residual.result c.from_residual.ensures.1).1) tt

pub returns-in_err-push-clause-few : goal.returns-in_err-push-clause-few
returns-in_err-push-clause-few c = rw ((err_from_is_err_and c.from_residual.result c.from_residual.ensures.1).1) tt

pub returns-in_err-push-clause-step : goal.returns-in_err-push-clause-step
returns-in_err-push-clause-step c = rw ((err_from_is_err_and c.from_residual.result c.from_residual.ensures.1).1) tt

pub first_taken-requires-clause-whole : goal.first_taken-requires-clause-whole
first_taken-requires-clause-whole c = rw c.deref.ensures.value c.requires.whole

pub first_taken-requires-clause-room : goal.first_taken-requires-clause-room
first_taken-requires-clause-room c = omega (arith, c.requires.room)

pub returns-in-Some-clause-whole : goal.returns-in-Some-clause-whole
returns-in-Some-clause-whole c = c.requires.whole

pub own-requires-clause-whole : goal.own-requires-clause-whole
own-requires-clause-whole c = rw c.deref_mut.ensures.value c.requires.whole

pub own-requires-clause-room : goal.own-requires-clause-room
own-requires-clause-room c = omega (arith, c.requires.room)

pub returns-clause-whole : goal.returns-clause-whole
returns-clause-whole c =
    let owned = owned_there c.args.self.now.owners c.own.new.owners c.deref_mut.result.now c.args.at 1 c.args.number c.deref_mut.ensures.value c.own.ensures in
    rw owned (length-owned_from c.args.self.now.owners.items c.args.at 1 c.args.number ∙ c.requires.whole)
