use Rattle.std.proofs.Common.{◌+◌, true, false, arith}
use Rattle.std.proofs.lemmas.Result.{err_from_is_err_and}
use Rattle.ags_text.specs.LineView.{line_at}
use Rattle.ags_text.proofs.FollowLemmas.{lines_follow}
use Rattle.ags_places.proofs.PlacingLemmas.{deck-nil, follow_deck}
use Rattle.ags_asm.proofs.PassLemmas.{fresh_within, misread_line, passed_none, passed_comment, passed_line, passed_all}
use Rattle.ags_asm.proofs.ReadingLemmas.{reading_within}
use Rattle.ags_asm.proofs.passing.read_cards.Goals as goal

pub loop-line-init : goal.loop-line-init
loop-line-init c =
    let bytes = c.args.bytes.now in
    rw (c.into_iter-line-iterator.ensures.into_iter_gives, c.of-line-items.ensures.lines) (record {
      passed = passed_none c.args.codes.now bytes c.args.pass.now (follow_deck bytes 0 _ (lines_follow bytes)) c.requires.fresh;
      within = fresh_within c.args.pass.now c.requires.fresh;
    })

pub overflow_add-number : goal.overflow_add-number
overflow_add-number c =
    let passed = rw c.in-Some.ensures.steps at c.loop-line.invariant.passed in
    let within = reading_within c.args.bytes.now (line_at c.in-Some.line) c.next.new.self c.loop-line.number passed.reading in
    omega (arith, within.0, within.1, c.requires.limit)

pub take_comment-requires-clause-line : goal.take_comment-requires-clause-line
take_comment-requires-clause-line c =
    let passed = rw c.in-Some.ensures.steps at c.loop-line.invariant.passed in
    let within = reading_within c.args.bytes.now (line_at c.in-Some.line) c.next.new.self c.loop-line.number passed.reading in
    omega (arith, within.1, c.requires.limit)

pub loop-line-preserved-then-is_comment_card : goal.loop-line-preserved-then-is_comment_card
loop-line-preserved-then-is_comment_card c =
    let passed = rw c.in-Some.ensures.steps at c.loop-line.invariant.passed in
    record {
      passed = passed_comment c.args.codes.now c.args.bytes.now (line_at c.in-Some.line) c.next.new.self c.loop-line.number c.loop-line.pass c.take_comment.new.self passed
          (c.is_comment_card.ensures.comment c.if-is_comment_card.true) (c.in_ok-take_comment.ensures.taken c.args.codes.now (c.loop-line.number + 1) (omega arith));
      within = c.in_ok-take_comment.ensures.within;
    }

pub read-requires-clause-line : goal.read-requires-clause-line
read-requires-clause-line c =
    let passed = rw c.in-Some.ensures.steps at c.loop-line.invariant.passed in
    let within = reading_within c.args.bytes.now (line_at c.in-Some.line) c.next.new.self c.loop-line.number passed.reading in
    omega (arith, within.1, c.requires.limit)

pub returns-in_err-read-clause-refused : goal.returns-in_err-read-clause-refused
returns-in_err-read-clause-refused c =
    let p = err_from_is_err_and c.from_residual-in_err-read.result c.from_residual-in_err-read.ensures.1 in
    let passed = rw c.in-Some.ensures.steps at c.loop-line.invariant.passed in
    rw (p.1, p.2) (misread_line c.args.codes.now c.args.bytes.now (line_at c.in-Some.line) c.next.new.self c.loop-line.number c.loop-line.pass c.in_err-read.field-0.0 passed c.in_err-read.ensures.misread)

pub returns-then-branch-clause-passed : goal.returns-then-branch-clause-passed
returns-then-branch-clause-passed c =
    let passed = rw c.in-Some.ensures.steps at c.loop-line.invariant.passed in
    passed_all c.args.codes.now c.args.bytes.now _ c.read.new.self
    (passed_line c.args.codes.now c.args.bytes.now (line_at c.in-Some.line) c.next.new.self c.loop-line.number c.in_ok-read.field-0 true c.loop-line.pass c.read.new.self passed c.in_ok-read.ensures.taken c.if-branch.true)

pub loop-line-preserved : goal.loop-line-preserved
loop-line-preserved c =
    let passed = rw c.in-Some.ensures.steps at c.loop-line.invariant.passed in
    record {
      passed = passed_line c.args.codes.now c.args.bytes.now (line_at c.in-Some.line) c.next.new.self c.loop-line.number c.in_ok-read.field-0 false c.loop-line.pass c.read.new.self passed c.in_ok-read.ensures.taken c.if-branch.false;
      within = c.in_ok-read.ensures.within;
    }

pub returns-clause-passed : goal.returns-clause-passed
returns-clause-passed c = passed_all c.args.codes.now c.args.bytes.now c.loop-line.number c.loop-line.pass (rw (c.in-None.ensures.steps.0, deck-nil) at c.loop-line.invariant.passed)
