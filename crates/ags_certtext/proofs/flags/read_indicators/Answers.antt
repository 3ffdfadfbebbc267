use Rattle.std.proofs.Common.{ap, sym, ◌∙◌, length, arith}
use Rattle.ags_certtext.proofs.FlagLemmas.{no_flags, empty_text, some_text, two_only}
use Rattle.ags_certtext.proofs.flags.read_indicators.Goals as goal

pub returns-then-is_empty-clause-only : goal.returns-then-is_empty-clause-only
returns-then-is_empty-clause-only c = λ flags are. absurd (no_flags 2 c.args.text.now flags (empty_text c.args.text.now (sym c.is_empty.ensures ∙ c.if-is_empty.true)) are)

pub returns-then-is_empty-2-clause-only : goal.returns-then-is_empty-2-clause-only
returns-then-is_empty-2-clause-only c = λ flags are.
    let one = two_only c.args.text.now c.split_digit-clear.result.0 c.split_digit-set.result.0 c.split_digit-clear.result.1.now c.split_digit-set.result.1.now flags c.split_digit-clear.ensures.whole
    c.split_digit-set.ensures.whole c.split_digit-clear.ensures.other c.split_digit-set.ensures.other are in
    rw one.0

pub returns-else-is_empty-2-clause-only : goal.returns-else-is_empty-2-clause-only
returns-else-is_empty-2-clause-only c = λ flags are.
    let one = two_only c.args.text.now c.split_digit-clear.result.0 c.split_digit-set.result.0 c.split_digit-clear.result.1.now c.split_digit-set.result.1.now flags c.split_digit-clear.ensures.whole
    c.split_digit-set.ensures.whole c.split_digit-clear.ensures.other c.split_digit-set.ensures.other are in
    let none = ap length one.1 in
    let some = some_text c.split_digit-set.result.1.now (sym c.is_empty-2.ensures ∙ c.if-is_empty-2.false) in
    absurd (omega (arith, none, some))
