use Rattle.ags_word.proofs.LongLaws.{product_over, over-product}
use Rattle.ags_word.proofs.laws.one_product_overflows.Goals as goal

pub returns-clause-only : goal.returns-clause-only
returns-clause-only c = product_over

pub returns-clause-least : goal.returns-clause-least
returns-clause-least c = over-product
