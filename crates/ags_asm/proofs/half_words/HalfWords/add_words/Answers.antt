use Rattle.std.proofs.Common.{[], length, Some, None, sym, refl, append-nil, ◌∙◌, arith}
use Rattle.std.specs.Vec.{with_items}
use Rattle.ags_asm.specs.declared.half_words.HalfWords.{HalfWords}
use Rattle.ags_asm.proofs.KeptLemmas.{keep_taken, keep_free, none_small, not_some, found_there, owned_there}
use Rattle.ags_asm.proofs.OwnedLemmas.{count_owned, length-owned_from}
use Rattle.ags_asm.proofs.half_words.HalfWords.add_words.Goals as goal

pub returns-in-Some-clause-step : goal.returns-in-Some-clause-step
returns-in-Some-clause-step c = λ codes S cards before left card next made so.
    keep_taken codes S cards before left card c.args.self.now _ c.args.number c.args.at (length c.args.words.now) c.args.words.now [] c.requires.not_met (sym (append-nil c.args.self.now.waiting.items)) none_small (omega arith) c.requires.room next made so
    c.in-Some.fault (found_there c.deref.result.now c.args.self.now.owners.items c.args.at (length c.args.words.now) c.first_taken.result (Some c.in-Some.fault) c.deref.ensures.value c.first_taken.ensures c.in-Some.is) so.whole refl

pub returns-clause-step : goal.returns-clause-step
returns-clause-step c = λ codes S cards before left card next made so.
    let now : HalfWords = record { image = c.fill.new.image; owners = with_items c.args.self.now.owners c.own.new.owners; waiting = c.args.self.now.waiting; met = c.args.self.now.met } in
    keep_free codes S cards before left card c.args.self.now now c.args.number c.args.at (length c.args.words.now) c.args.words.now [] c.requires.not_met (sym (append-nil c.args.self.now.waiting.items)) none_small (omega arith) c.requires.room next made so
    (found_there c.deref.result.now c.args.self.now.owners.items c.args.at (length c.args.words.now) c.first_taken.result None c.deref.ensures.value c.first_taken.ensures (not_some c.first_taken.result c.in_default.not-Some)) c.requires.whole c.fill.ensures.filled (c.fill.ensures.image so.whole)
    (owned_there c.args.self.now.owners c.own.new.owners c.deref_mut.result.now c.args.at (length c.args.words.now) c.args.number c.deref_mut.ensures.value c.own.ensures) c.requires.not_met

pub returns-clause-few : goal.returns-clause-few
returns-clause-few c =
    let many = length c.args.words.now in
    let owned = owned_there c.args.self.now.owners c.own.new.owners c.deref_mut.result.now c.args.at many c.args.number c.deref_mut.ensures.value c.own.ensures in
    rw owned (omega (arith, c.requires.few, count_owned c.args.self.now.owners.items c.args.at many c.args.number (omega (arith, c.requires.room, c.requires.whole)) c.requires.positive))

pub overflow_cast-words : goal.overflow_cast-words
overflow_cast-words c = omega (arith, c.requires.room)

pub first_taken-requires-clause-whole : goal.first_taken-requires-clause-whole
first_taken-requires-clause-whole c = rw c.deref.ensures.value c.requires.whole

pub first_taken-requires-clause-room : goal.first_taken-requires-clause-room
first_taken-requires-clause-room c = c.requires.room

pub returns-in-Some-clause-whole : goal.returns-in-Some-clause-whole
returns-in-Some-clause-whole c = c.requires.whole

pub returns-in-Some-clause-few : goal.returns-in-Some-clause-few
returns-in-Some-clause-few c = omega (arith, rw c.requires.not_met at c.requires.few)

pub overflow_cast-words-2 : goal.overflow_cast-words-2
overflow_cast-words-2 c = omega (arith, c.requires.room)

pub own-requires-clause-whole : goal.own-requires-clause-whole
own-requires-clause-whole c = rw c.deref_mut.ensures.value c.requires.whole

pub own-requires-clause-room : goal.own-requires-clause-room
own-requires-clause-room c = c.requires.room

pub fill-requires : goal.fill-requires
fill-requires c = c.requires.room

pub returns-clause-whole : goal.returns-clause-whole
returns-clause-whole c =
    let many = length c.args.words.now in
    let owned = owned_there c.args.self.now.owners c.own.new.owners c.deref_mut.result.now c.args.at many c.args.number c.deref_mut.ensures.value c.own.ensures in
    rw owned (length-owned_from c.args.self.now.owners.items c.args.at many c.args.number ∙ c.requires.whole)
