use Rattle.std.proofs.Common.{sym, ◌∙◌, arith}
use Rattle.ags_certtext.proofs.FlagLemmas.{no_flags, empty_text, some_text, marking_more, marking_whole}
use Rattle.ags_certtext.proofs.flags.read_indices.Goals as goal

pub returns-then-is_empty-clause-only : goal.returns-then-is_empty-clause-only
returns-then-is_empty-clause-only c = λ flags are. absurd (no_flags 8 c.args.text.now flags (empty_text c.args.text.now (sym c.is_empty.ensures ∙ c.if-is_empty.true)) are)

pub loop-index-preserved : goal.loop-index-preserved
loop-index-preserved c =
    marking_more c.args.text.now c.loop-index.flags c.loop-index.rest.now c.loop-index.index c.split_digit-set.result.0 c.split_digit-set.result.1.now (omega arith) c.loop-index.invariant
    c.split_digit-set.ensures.whole c.split_digit-set.ensures.other

pub returns-then-is_empty-2-clause-found : goal.returns-then-is_empty-2-clause-found
returns-then-is_empty-2-clause-found c =
    marking_whole c.args.text.now c.loop-index.flags c.loop-index.rest.now c.loop-index.index (omega arith) (some_text c.args.text.now (sym c.is_empty.ensures ∙ c.if-is_empty.false))
    c.loop-index.invariant (empty_text c.loop-index.rest.now (sym c.is_empty-2.ensures ∙ c.if-is_empty-2.true))
