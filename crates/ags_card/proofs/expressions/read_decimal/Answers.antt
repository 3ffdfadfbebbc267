use Rattle.std.proofs.Common.{◌∙◌, sym, arith}
use Rattle.ags_text.proofs.NumberLaws.{number_short, number_long}
use Rattle.ags_card.proofs.NumberLemmas.{small_read}
use Rattle.ags_card.proofs.expressions.read_decimal.Goals as goal

pub returns-then-text-gt-MOST_DIGITS-clause-same : goal.returns-then-text-gt-MOST_DIGITS-clause-same
returns-then-text-gt-MOST_DIGITS-clause-same c = sym (number_long 10 6 c.args.text.now (omega arith))

pub returns-clause-same : goal.returns-clause-same
returns-clause-same c = c.read_decimal.ensures.same ∙ number_short 10 9 6 c.args.text.now (omega arith) (omega arith)

pub returns-clause-most : goal.returns-clause-most
returns-clause-most c = small_read c.args.text.now c.read_decimal.result (c.read_decimal.ensures.same ∙ number_short 10 9 6 c.args.text.now (omega arith) (omega arith))
