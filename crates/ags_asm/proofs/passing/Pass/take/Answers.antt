use Rattle.std.proofs.Common.{refl, inl, inr}
use Rattle.std.proofs.lemmas.Result.{err_from_is_err_and}
use Rattle.ags_text.specs.LineView.{line_at}
use Rattle.ags_asm.proofs.KeptLemmas.{none_of}
use Rattle.ags_asm.proofs.PassLemmas.{few_wait, room_of_words, stopped_before}
use Rattle.ags_asm.proofs.passing.Pass.take.Goals as goal

pub returns-then-is_some-clause-taken : goal.returns-then-is_some-clause-taken
returns-then-is_some-clause-taken c = stopped_before c.args.codes.now (line_at c.args.line) c.args.number c.args.card.now c.args.self.now c.is_some.result c.is_some.ensures c.if-is_some.true

pub returns-then-is_some-clause-within : goal.returns-then-is_some-clause-within
returns-then-is_some-clause-within c = c.requires.within

pub returns-then-is_some-clause-fix_ups : goal.returns-then-is_some-clause-fix_ups
returns-then-is_some-clause-fix_ups c = few_wait c.args.self.now.words c.requires.within.whole c.requires.within.few

pub place_card-requires : goal.place_card-requires
place_card-requires c = c.requires.within.place

pub add-requires-clause-whole : goal.add-requires-clause-whole
add-requires-clause-whole c = c.requires.within.whole

pub add-requires-clause-room : goal.add-requires-clause-room
add-requires-clause-room c = room_of_words c.args.self.now.symbols c.args.self.now.place c.args.card.now.body c.in-Ok.next c.requires.within.place c.in-Ok.ensures.next c.in-Ok.ensures.small

pub add-requires-clause-few : goal.add-requires-clause-few
add-requires-clause-few c = c.requires.within.few

pub add-requires-clause-positive : goal.add-requires-clause-positive
add-requires-clause-positive c = c.requires.positive

pub returns-in_err-add-in-Ok-clause-taken : goal.returns-in_err-add-in-Ok-clause-taken
returns-in_err-add-in-Ok-clause-taken c = rw ((err_from_is_err_and c.from_residual.result c.from_residual.ensures.1).1) tt

pub returns-in_err-add-in-Ok-clause-within : goal.returns-in_err-add-in-Ok-clause-within
returns-in_err-add-in-Ok-clause-within c = rw ((err_from_is_err_and c.from_residual.result c.from_residual.ensures.1).1) tt

pub returns-in_err-add-in-Ok-clause-fix_ups : goal.returns-in_err-add-in-Ok-clause-fix_ups
returns-in_err-add-in-Ok-clause-fix_ups c = rw ((err_from_is_err_and c.from_residual.result c.from_residual.ensures.1).1) tt

pub at-requires : goal.at-requires
at-requires c = c.requires.line

pub returns-in_err-push-in-Ok-clause-taken : goal.returns-in_err-push-in-Ok-clause-taken
returns-in_err-push-in-Ok-clause-taken c = rw ((err_from_is_err_and c.from_residual-in_err-push-in-Ok.result c.from_residual-in_err-push-in-Ok.ensures.1).1) tt

pub returns-in_err-push-in-Ok-clause-within : goal.returns-in_err-push-in-Ok-clause-within
returns-in_err-push-in-Ok-clause-within c = rw ((err_from_is_err_and c.from_residual-in_err-push-in-Ok.result c.from_residual-in_err-push-in-Ok.ensures.1).1) tt

pub returns-in_err-push-in-Ok-clause-fix_ups : goal.returns-in_err-push-in-Ok-clause-fix_ups
returns-in_err-push-in-Ok-clause-fix_ups c = rw ((err_from_is_err_and c.from_residual-in_err-push-in-Ok.result c.from_residual-in_err-push-in-Ok.ensures.1).1) tt

pub returns-in_ok-push-in-Ok-clause-taken : goal.returns-in_ok-push-in-Ok-clause-taken
returns-in_ok-push-in-Ok-clause-taken c =
    let none = none_of c.args.self.now.misplaced c.is_some.result c.is_some.ensures c.if-is_some.false in
    inl (
      none,
      record {
        misplaced = none;
        faultless = c.in-Ok.ensures.faultless;
        pair = c.in-Ok.ensures.pair;
        next = c.in-Ok.ensures.next;
        cards = rw (← c.place_of_word.ensures, ← c.count_of.ensures.count, ← c.at.ensures) c.in_ok-push-in-Ok.ensures.items;
        words = λ later cards before left next half. c.in_ok-add-in-Ok.ensures.step later cards before left c.args.card.now refl next half;
      },
    )

pub returns-in_ok-push-in-Ok-clause-within : goal.returns-in_ok-push-in-Ok-clause-within
returns-in_ok-push-in-Ok-clause-within c = record { place = c.in-Ok.ensures.small; whole = c.in_ok-add-in-Ok.ensures.whole; few = c.in_ok-add-in-Ok.ensures.few }

pub returns-in_ok-push-in-Ok-clause-fix_ups : goal.returns-in_ok-push-in-Ok-clause-fix_ups
returns-in_ok-push-in-Ok-clause-fix_ups c = few_wait c.add.new.self c.in_ok-add-in-Ok.ensures.whole c.in_ok-add-in-Ok.ensures.few

pub returns-in-Err-Fault-clause-taken : goal.returns-in-Err-Fault-clause-taken
returns-in-Err-Fault-clause-taken c =
    let none = none_of c.args.self.now.misplaced c.is_some.result c.is_some.ensures c.if-is_some.false in
    inr (inl (none, c.in-Err-Fault.fault, refl, rw c.in-Err-Fault.field-0-is at c.in-Err-Fault.ensures.unplaced))

pub returns-in-Err-Fault-clause-within : goal.returns-in-Err-Fault-clause-within
returns-in-Err-Fault-clause-within c = record { place = c.requires.within.place; whole = c.requires.within.whole; few = c.requires.within.few }

pub returns-in-Err-Fault-clause-fix_ups : goal.returns-in-Err-Fault-clause-fix_ups
returns-in-Err-Fault-clause-fix_ups c = few_wait c.args.self.now.words c.requires.within.whole c.requires.within.few

pub returns-in-Err-NoMemory-clause-taken : goal.returns-in-Err-NoMemory-clause-taken
returns-in-Err-NoMemory-clause-taken c = tt

pub returns-in-Err-NoMemory-clause-within : goal.returns-in-Err-NoMemory-clause-within
returns-in-Err-NoMemory-clause-within c = tt

pub returns-in-Err-NoMemory-clause-fix_ups : goal.returns-in-Err-NoMemory-clause-fix_ups
returns-in-Err-NoMemory-clause-fix_ups c = tt
