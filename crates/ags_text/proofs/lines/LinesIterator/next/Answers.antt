use Rattle.std.proofs.Common.{length, ap, arith}
use Rattle.std.proofs.lemmas.List.{take_rest}
use Rattle.ags_text.proofs.LineLemmas.{next-feed, next-last, next-none, lines_in-end}
use Rattle.ags_text.proofs.lines.LinesIterator.next.Goals as goal

pub returns-then-feed-rest-clause-steps : goal.returns-then-feed-rest-clause-steps
returns-then-feed-rest-clause-steps c =
    let s = c.self.inside in
    next-feed c.args.self.now s.start c.front_len-feed.result s.text.now _ c.strip_return-bytes.result.now c.self.view_is (take_rest s.text.now s.start) c.front_len-feed.ensures.place c.if-feed-rest.true c.strip_return-bytes.ensures

pub returns-then-feed-rest-clause-goes : goal.returns-then-feed-rest-clause-goes
returns-then-feed-rest-clause-goes c =
    let e = ap length (returns-then-feed-rest-clause-steps c) in
    record { on = λ _. (tt, tt, omega (arith, e)); keeps = tt; rests = λ _. tt }

pub returns-then-is_empty-clause-steps : goal.returns-then-is_empty-clause-steps
returns-then-is_empty-clause-steps c =
    let s = c.self.inside in
    (next-none c.args.self.now s.start c.front_len-feed.result s.text.now _ c.strip_return-bytes.result.now c.is_empty.result c.self.view_is (take_rest s.text.now s.start) c.front_len-feed.ensures.place (omega arith) c.strip_return-bytes.ensures c.is_empty.ensures c.if-is_empty.true, lines_in-end _ s.text.now (omega arith))

pub returns-clause-steps : goal.returns-clause-steps
returns-clause-steps c =
    let s = c.self.inside in
    next-last c.args.self.now s.start c.front_len-feed.result s.text.now _ c.strip_return-bytes.result.now c.is_empty.result c.self.view_is (take_rest s.text.now s.start) c.front_len-feed.ensures.place (omega arith) c.strip_return-bytes.ensures c.is_empty.ensures c.if-is_empty.false

pub returns-clause-goes : goal.returns-clause-goes
returns-clause-goes c =
    let e = ap length (returns-clause-steps c) in
    record { on = λ _. (tt, tt, omega (arith, e)); keeps = tt; rests = λ _. tt }
