use Rattle.std.proofs.Common.{rules, false, ◌≡◌, List, ◌+◌, length, Option, Some, refl, sym, ap, subst, ◌∙◌, arith}
use Rattle.std.specs.Vec.Iter.{into_iter_items}
use Rattle.std.proofs.lemmas.List.{nil_from_length}
use Rattle.std.proofs.lemmas.Result.{err_from_is_err_and}
use Rattle.ags_edits.specs.declared.edits.Edit.{Edit}
use Rattle.ags_program.specs.declared.status.Status.{Status}
use Rattle.ags_top.proofs.TellingLemmas.{Telling, telling_begins, told_all, told_further, told_in_part}
use Rattle.ags_top.proofs.edits_command.tell_each.Goals as goal

pub loop-edit-init : goal.loop-edit-init
loop-edit-init g c =
    let gives = c.into_iter-edit-iterator.ensures.into_iter_gives in
    let whole : length c.args.edits.items ≡ c.args.edits.len = search rules in
    record {
      telling = subst
          (λ (left : List Edit). Telling c.args.book.now c.args.edits.items c.args.before left 0 c.args.book.now (g.K.Sink.told c.args.out.now) (g.K.Sink.told c.args.out.now) (Some c.args.before))
          (sym gives.0)
          (telling_begins c.args.book.now c.args.edits.items c.args.before (g.K.Sink.told c.args.out.now) c.requires.machine c.requires.image c.requires.lawful);
      faults = refl;
      count = let same = ap (λ (left : List Edit). length left) gives.0 in omega (arith, same);
      left = gives.1 ∙ (sym whole ∙ sym (ap (λ (left : List Edit). length left) gives.0));
    }

pub returns-in_err-say_told-clause-tells : goal.returns-in_err-say_told-clause-tells
returns-in_err-say_told-clause-tells g c =
    let p = err_from_is_err_and c.from_residual.result c.from_residual.ensures.1 in
    let step = c.in-Some.ensures.steps in
    let so_far = subst
    (λ (left : List Edit). Telling c.args.book.now c.args.edits.items c.args.before left c.loop-edit.number c.loop-edit.book (g.K.Sink.told c.args.out.now) (g.K.Sink.told c.loop-edit.out) c.loop-edit.status)
    step.0 c.loop-edit.invariant.telling in
    rw p.1 (told_in_part c.args.book.now c.args.edits.items c.args.before (g.K.Sink.told c.args.out.now) c.in-Some.edit (into_iter_items c.next.new.self) c.loop-edit.number (c.loop-edit.number + 1) (refl {a = c.loop-edit.number + 1})
    c.loop-edit.book c.told_of-told.new.book (g.K.Sink.told c.loop-edit.out) (g.K.Sink.told c.say_told.new.out) c.loop-edit.status c.told_of-told.result so_far c.told_of-told.ensures
    c.in_err-say_told.ensures.front)

pub loop-edit-preserved : goal.loop-edit-preserved
loop-edit-preserved g c =
    let step = c.in-Some.ensures.steps in
    let longer = ap (λ (left : List Edit). length left) step.0 in
    let so_far = subst
    (λ (left : List Edit). Telling c.args.book.now c.args.edits.items c.args.before left c.loop-edit.number c.loop-edit.book (g.K.Sink.told c.args.out.now) (g.K.Sink.told c.loop-edit.out) c.loop-edit.status)
    step.0 c.loop-edit.invariant.telling in
    record {
      telling = subst
          (λ (status : Option Status). Telling c.args.book.now c.args.edits.items c.args.before (into_iter_items c.next.new.self) (c.loop-edit.number + 1) c.told_of-told.new.book (g.K.Sink.told c.args.out.now) (g.K.Sink.told c.say_told.new.out) status)
          (sym c.status_with-status.ensures)
          (told_further c.args.book.now c.args.edits.items c.args.before (g.K.Sink.told c.args.out.now) c.in-Some.edit (into_iter_items c.next.new.self) c.loop-edit.number (c.loop-edit.number + 1) (refl {a = c.loop-edit.number + 1})
          c.loop-edit.book c.told_of-told.new.book (g.K.Sink.told c.loop-edit.out) (g.K.Sink.told c.say_told.new.out) c.loop-edit.status c.told_of-told.result so_far c.told_of-told.ensures
          c.in_ok-say_told.ensures.sent);
      faults = c.in_ok-say_told.ensures.faults.clean (refl {a = false}) ∙ c.loop-edit.invariant.faults;
      count = let so = c.loop-edit.invariant.count in omega (arith, so, longer);
      left = let so = c.loop-edit.invariant.left in omega (arith, so, longer, step.1);
    }

pub returns-clause-tells : goal.returns-clause-tells
returns-clause-tells g c =
    let so = c.loop-edit.invariant.left in
    let none = c.in-None.ensures.steps.0 in
    let empty = nil_from_length (into_iter_items c.loop-edit.edit-iterator) (omega (arith, so, none)) in
    rw c.status_in_the_end.ensures
    (told_all c.args.book.now c.args.edits.items c.args.before (g.K.Sink.told c.args.out.now) c.loop-edit.number c.loop-edit.book (g.K.Sink.told c.loop-edit.out) c.loop-edit.status
    (subst
    (λ (left : List Edit). Telling c.args.book.now c.args.edits.items c.args.before left c.loop-edit.number c.loop-edit.book (g.K.Sink.told c.args.out.now) (g.K.Sink.told c.loop-edit.out) c.loop-edit.status)
    empty c.loop-edit.invariant.telling))
