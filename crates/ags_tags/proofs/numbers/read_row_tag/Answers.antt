use Rattle.std.proofs.Common.{ap}
use Rattle.std.specs.Prelude.{Some}
use Rattle.ags_tags.specs.declared.tags.Tag.TheVariants.{Raw}
use Rattle.ags_tags.specs.declared.tags.RowTag.{RowTag}
use Rattle.ags_tags.specs.declared.tags.RowTag.TheVariants.{Any, Known}
use Rattle.ags_tags.proofs.NumberLemmas.{one_row_tag, no_row_tag}
use Rattle.ags_tags.proofs.numbers.read_row_tag.Goals as goal

pub returns-then-is_word-clause-found : goal.returns-then-is_word-clause-found
returns-then-is_word-clause-found c = c.is_word.ensures.same c.if-is_word.true

pub returns-then-is_word-clause-only : goal.returns-then-is_word-clause-only
returns-then-is_word-clause-only c = λ tag is. ap (λ (t : RowTag). Some t) (one_row_tag c.args.text.now Any tag (c.is_word.ensures.same c.if-is_word.true) is)

pub returns-then-is_word-2-clause-found : goal.returns-then-is_word-2-clause-found
returns-then-is_word-2-clause-found c = c.is_word-2.ensures.same c.if-is_word-2.true

pub returns-then-is_word-2-clause-only : goal.returns-then-is_word-2-clause-only
returns-then-is_word-2-clause-only c = λ tag is. ap (λ (t : RowTag). Some t) (one_row_tag c.args.text.now (Known Raw) tag (c.is_word-2.ensures.same c.if-is_word-2.true) is)

pub returns-in-None-clause-only : goal.returns-in-None-clause-only
returns-in-None-clause-only c = λ tag is.
    absurd (no_row_tag c.args.text.now (c.is_word.ensures.other c.if-is_word.false) (c.is_word-2.ensures.other c.if-is_word-2.false)
    (λ scale writes. (let none = c.in-None.ensures.only scale writes in absurd cc)) tag is)
