use Rattle.std.proofs.Common.{◌≡◌, ◌<◌, Some, [], length, take, refl, ap, length-drop, arith}
use Rattle.std.proofs.lemmas.List.{take_more_set}
use Rattle.ags_decimal.specs.Reading.{reading}
use Rattle.ags_card.specs.Reading.{list_reading}
use Rattle.ags_card.proofs.ListLaws.{list_none, list_last, list_more}
use Rattle.ags_card.proofs.OperandLaws.{decimal_some}
use Rattle.ags_card.proofs.TermLemmas.{not_empty, is_empty, behind_first}
use Rattle.ags_card.proofs.lists.read_decimals.Goals as goal

pub returns-in_default-clause-fault : goal.returns-in_default-clause-fault
returns-in_default-clause-fault c =
    let l = c.loop-number in (
      list_none reading (take l.count l.numbers) l.rest.now c.split_at.result.0.now c.split_at.result.1.now (list_reading reading [] c.args.text.now) l.invariant.whole
          (rw c.front_len.ensures.place at c.split_at.ensures.front) (rw c.front_len.ensures.place at c.split_at.ensures.back) (cc (c.read.ensures, c.in_default.is)),
      refl,
    )

pub returns-then-is_empty-clause-read : goal.returns-then-is_empty-clause-read
returns-then-is_empty-clause-read c =
    let l = c.loop-number in
    let behind = c.split_at.result.1.now in
    let room : l.count < length l.numbers = omega arith in
    rw (take_more_set l.numbers l.count c.in-Some.number room) (
    list_last reading (take l.count l.numbers) l.rest.now c.split_at.result.0.now behind c.in-Some.number (list_reading reading [] c.args.text.now) l.invariant.whole
    (rw c.front_len.ensures.place at c.split_at.ensures.front) (rw c.front_len.ensures.place at c.split_at.ensures.back) (cc (c.read.ensures, c.in-Some.is)) (is_empty behind c.is_empty.result c.is_empty.ensures c.if-is_empty.true)
    )

pub loop-number-preserved : goal.loop-number-preserved
loop-number-preserved c =
    let l = c.loop-number in
    let front = c.split_at.result.0.now in
    let behind = c.split_at.result.1.now in
    let room : l.count < length l.numbers = omega arith in
    let some : reading front ≡ Some c.in-Some.number = (cc (c.read.ensures, c.in-Some.is)) in
    let more = not_empty behind c.is_empty.result c.is_empty.ensures c.if-is_empty.false in
    let tail = behind_first behind in
    let whole = list_more reading (take l.count l.numbers) l.rest.now front behind c.in-Some.number (list_reading reading [] c.args.text.now) l.invariant.whole
    (rw c.front_len.ensures.place at c.split_at.ensures.front) (rw c.front_len.ensures.place at c.split_at.ensures.back) some more in
    record {
      whole = rw (take_more_set l.numbers l.count c.in-Some.number room, tail) whole;
      most = omega arith;
      room = omega (arith, ap length tail, length-drop 1 behind, decimal_some front c.in-Some.number some, c.split_at.ensures.front_len, c.split_at.ensures.back_len, c.front_len.ensures.within, l.invariant.room);
    }
