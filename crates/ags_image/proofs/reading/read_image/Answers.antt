use Rattle.std.proofs.Common.{sym, arith}
use Rattle.ags_image.specs.Image.{PlacedWord, entry_at}
use Rattle.ags_image.specs.Lines.{feed_lines}
use Rattle.ags_image.proofs.ReadLemmas.{reading_none, reading_skip, reading_misshapen, reading_twice, reading_more, entry_held, entry_free}
use Rattle.ags_image.proofs.reading.read_image.Goals as goal

pub loop-line-init : goal.loop-line-init
loop-line-init g c = record {
  reading = rw c.in-Ok.ensures.empty (reading_none g.F.LineForm.form (feed_lines c.args.bytes.now));
  few = omega arith;
}

pub returns-in_default-read-clause-fault : goal.returns-in_default-read-clause-fault
returns-in_default-read-clause-fault g c =
    reading_misshapen g.F.LineForm.form (feed_lines c.args.bytes.now) (feed_lines c.in-Some.behind.now) c.in-Some.line.now c.loop-line.number c.loop-line.image
    (rw c.in-Some.ensures.line at c.loop-line.invariant.reading) (sym c.in_default-read.ensures.form)

pub loop-line-preserved-in_default-entry : goal.loop-line-preserved-in_default-entry
loop-line-preserved-in_default-entry g c = record {
  reading =
      reading_skip g.F.LineForm.form (feed_lines c.args.bytes.now) (feed_lines c.in-Some.behind.now) c.in-Some.line.now c.loop-line.number c.loop-line.image
      (rw c.in-Some.ensures.line at c.loop-line.invariant.reading) (sym (rw c.in_default-entry.is at c.in-Some-read.ensures.form));
  few = omega (arith, c.loop-line.invariant.few, c.in-Some.ensures.less);
}

pub returns-then-is_some-clause-fault : goal.returns-then-is_some-clause-fault
returns-then-is_some-clause-fault g c =
    let placed : PlacedWord = record { place = c.in-Some-entry.placed.0; word = c.in-Some-entry.placed.1 } in
    let held = entry_held c.get.result (entry_at c.loop-line.image placed.place) c.is_some.result c.is_some.ensures c.get.ensures.entry c.if-is_some.true in
    reading_twice g.F.LineForm.form (feed_lines c.args.bytes.now) (feed_lines c.in-Some.behind.now) c.in-Some.line.now c.loop-line.number c.loop-line.image
    (rw c.in-Some.ensures.line at c.loop-line.invariant.reading) placed held.0 (sym (rw c.in-Some-entry.is at c.in-Some-read.ensures.form)) held.1

pub loop-line-preserved : goal.loop-line-preserved
loop-line-preserved g c =
    let placed : PlacedWord = record { place = c.in-Some-entry.placed.0; word = c.in-Some-entry.placed.1 } in
    let free = entry_free c.get.result (entry_at c.loop-line.image placed.place) c.is_some.result c.is_some.ensures c.get.ensures.entry c.if-is_some.false in
    record {
      reading = rw c.set.ensures.word
          (reading_more g.F.LineForm.form (feed_lines c.args.bytes.now) (feed_lines c.in-Some.behind.now) c.in-Some.line.now c.loop-line.number c.loop-line.image
          (rw c.in-Some.ensures.line at c.loop-line.invariant.reading) placed (sym (rw c.in-Some-entry.is at c.in-Some-read.ensures.form)) free
          (rw c.in-Some-entry.is at c.in-Some-read.ensures.within) (rw c.set.ensures.word at c.set.ensures.image));
      few = omega (arith, c.loop-line.invariant.few, c.in-Some.ensures.less);
    }
