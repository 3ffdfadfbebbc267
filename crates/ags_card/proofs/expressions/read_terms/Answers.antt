use Rattle.std.proofs.Common.{◌≡◌, ◌<◌, Some, [], length, take, refl, sym, ap, length-drop, arith}
use Rattle.std.proofs.lemmas.List.{take_more_set}
use Rattle.std.proofs.lemmas.List.Elements.{All-push}
use Rattle.ags_card.specs.Reading.{atom_reading, terms_reading}
use Rattle.ags_card.specs.Term.{HasSmallNumber}
use Rattle.ags_card.specs.declared.terms.Term.{Term}
use Rattle.ags_card.proofs.TermLemmas.{read_none, read_last, read_more, none_empty, not_empty, is_empty, behind_first}
use Rattle.ags_card.proofs.expressions.read_terms.Goals as goal

pub returns-in_default-clause-fault : goal.returns-in_default-clause-fault
returns-in_default-clause-fault c =
    let l = c.loop-atom in (
      sym (read_none (take l.count l.terms) l.minus l.rest.now c.split_at.result.0.now c.split_at.result.1.now (terms_reading c.args.minus [] c.args.text.now) l.invariant.whole
          (rw c.front_len.ensures.place at c.split_at.ensures.front) (rw c.front_len.ensures.place at c.split_at.ensures.back) (cc (c.read_atom.ensures.same, c.in_default.is))),
      refl,
    )

pub returns-then-is_empty-clause-read : goal.returns-then-is_empty-clause-read
returns-then-is_empty-clause-read c =
    let l = c.loop-atom in
    let behind = c.split_at.result.1.now in
    let term : Term = record { minus = l.minus; atom = c.in-Some.atom } in
    let room : l.count < length l.terms = omega arith in
    rw (take_more_set l.terms l.count term room) (
    sym (read_last (take l.count l.terms) l.minus l.rest.now c.split_at.result.0.now behind c.in-Some.atom (terms_reading c.args.minus [] c.args.text.now) l.invariant.whole
    (rw c.front_len.ensures.place at c.split_at.ensures.front) (rw c.front_len.ensures.place at c.split_at.ensures.back) (cc (c.read_atom.ensures.same, c.in-Some.is)) (is_empty behind c.is_empty.result c.is_empty.ensures c.if-is_empty.true))
    )

pub loop-atom-preserved : goal.loop-atom-preserved
loop-atom-preserved c =
    let l = c.loop-atom in
    let front = c.split_at.result.0.now in
    let behind = c.split_at.result.1.now in
    let term : Term = record { minus = l.minus; atom = c.in-Some.atom } in
    let room : l.count < length l.terms = omega arith in
    let some : atom_reading front ≡ Some c.in-Some.atom = (cc (c.read_atom.ensures.same, c.in-Some.is)) in
    let more = not_empty behind c.is_empty.result c.is_empty.ensures c.if-is_empty.false in
    let tail = behind_first behind in
    let whole = read_more (take l.count l.terms) l.minus l.rest.now front behind c.in-Some.atom (terms_reading c.args.minus [] c.args.text.now) l.invariant.whole
    (rw c.front_len.ensures.place at c.split_at.ensures.front) (rw c.front_len.ensures.place at c.split_at.ensures.back) some more in
    record {
      whole = rw (take_more_set l.terms l.count term room, c.begins_with_minus-minus.ensures, tail) whole;
      room = omega (arith, ap length tail, length-drop 1 behind, none_empty front c.in-Some.atom some, c.split_at.ensures.front_len, c.split_at.ensures.back_len, c.front_len.ensures.within, l.invariant.room);
      most = omega arith;
      small = rw (take_more_set l.terms l.count term room) (All-push (λ term. HasSmallNumber term.atom) (take l.count l.terms) _ l.invariant.small c.in-Some.ensures.small);
    }
