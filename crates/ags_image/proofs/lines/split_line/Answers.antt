use Rattle.std.proofs.Common.{◌+◌}
use Rattle.std.proofs.lemmas.List.{take_rest}
use Rattle.ags_image.proofs.CutLemmas.{feed_lines-empty, some_text, feed_lines-feed, feed_lines-last}
use Rattle.ags_image.proofs.lines.split_line.Goals as goal

pub returns-then-is_empty-clause-none : goal.returns-then-is_empty-clause-none
returns-then-is_empty-clause-none c = feed_lines-empty c.args.text.now c.is_empty.result c.is_empty.ensures c.if-is_empty.true

pub returns-then-feed-text-clause-line : goal.returns-then-feed-text-clause-line
returns-then-feed-text-clause-line c =
    rw (take_rest c.args.text.now (c.front_len-feed.result + 1))
    (feed_lines-feed c.args.text.now c.front_len-feed.result c.front_len-feed.ensures.place c.if-feed-text.true)

pub returns-else-feed-text-clause-line : goal.returns-else-feed-text-clause-line
returns-else-feed-text-clause-line c =
    rw (take_rest c.args.text.now c.front_len-feed.result)
    (feed_lines-last c.args.text.now c.front_len-feed.result c.front_len-feed.ensures.place c.if-feed-text.false
    (some_text c.args.text.now c.is_empty.result c.is_empty.ensures c.if-is_empty.false))
