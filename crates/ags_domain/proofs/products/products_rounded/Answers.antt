use Rattle.std.proofs.Common.{refl}
use Rattle.ags_word.specs.Operation.{product_rounded}
use Rattle.ags_domain.specs.Range.{range_ends}
use Rattle.ags_domain.proofs.HullLaws.{AreEnds-range}
use Rattle.ags_domain.proofs.ProductLaws.{rounded_number, rounded_exact, rounded_corners, product_answers}
use Rattle.ags_domain.proofs.products.products_rounded.Goals as goal

pub returns : goal.returns
returns c =
    let a = range_ends c.args.a.now in
    let m = range_ends c.args.m.now in
    product_answers product_rounded rounded_number (λ o. refl) a m (rounded_exact a m) (rounded_corners a m (AreEnds-range c.args.a.now) (AreEnds-range c.args.m.now))
    c.product_rounded_at.result c.product_rounded_at-2.result c.product_rounded_at-3.result c.product_rounded_at-4.result
    c.product_rounded_at.ensures c.product_rounded_at-2.ensures c.product_rounded_at-3.ensures c.product_rounded_at-4.ensures
    c.around_tries.result c.around_tries.ensures
