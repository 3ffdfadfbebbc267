use Rattle.std.proofs.Common.{get_or, refl, arith}
use Rattle.ags_xref.proofs.NamingLemmas.{nothing_placed, Walking-none, Walking-span, Walking-more, Walking-all}
use Rattle.ags_xref.proofs.gathering.gather_naming.Goals as goal

pub loop-index-init : goal.loop-index-init
loop-index-init c = Walking-none c.args.source.now c.args.placed.now c.args.rows.now c.in_ok-naming.naming.items c.requires.spans c.in_ok-naming.ensures.long c.in_ok-naming.ensures.empty

pub line_of-line-requires-clause-ordered : goal.line_of-line-requires-clause-ordered
line_of-line-requires-clause-ordered c =
    (Walking-span c.args.source.now c.args.placed.now c.args.rows.now c.loop-index.index c.loop-index.naming.items (get_or c.args.placed.now c.loop-index.index nothing_placed)
    c.loop-index.invariant c.loop-index-test.true refl).1

pub line_of-line-requires-clause-within : goal.line_of-line-requires-clause-within
line_of-line-requires-clause-within c =
    (Walking-span c.args.source.now c.args.placed.now c.args.rows.now c.loop-index.index c.loop-index.naming.items (get_or c.args.placed.now c.loop-index.index nothing_placed)
    c.loop-index.invariant c.loop-index-test.true refl).2

pub note_card-requires : goal.note_card-requires
note_card-requires c = record { rows = c.requires.rows; long = c.loop-index.invariant.naming.long }

pub overflow_cast-index : goal.overflow_cast-index
overflow_cast-index c = omega (arith, c.requires.limit, c.loop-index.invariant.few, c.loop-index.invariant.short)

pub overflow_add-index : goal.overflow_add-index
overflow_add-index c = omega (arith, c.requires.limit, c.loop-index.invariant.few, c.loop-index.invariant.short)

pub loop-index-preserved : goal.loop-index-preserved
loop-index-preserved c =
    Walking-more c.args.source.now c.args.placed.now c.args.rows.now c.loop-index.index c.loop-index.naming.items c.note_card.new.naming.items (get_or c.args.placed.now c.loop-index.index nothing_placed)
    c.loop-index.invariant c.loop-index-test.true refl (rw c.line_of-line.ensures at c.in_ok-note_card.ensures)

pub returns : goal.returns
returns c =
    Walking-all c.args.source.now c.args.placed.now c.args.rows.now c.loop-index.index c.loop-index.naming.items c.loop-index.invariant c.loop-index-test.false
