use Rattle.std.proofs.Common.{refl}
use Rattle.ags_word.specs.Operation.{product_high}
use Rattle.ags_domain.specs.Range.{range_ends}
use Rattle.ags_domain.proofs.HullLaws.{AreEnds-range}
use Rattle.ags_domain.proofs.ProductLaws.{high_number, high_exact, high_corners, product_answers}
use Rattle.ags_domain.proofs.products.products_high.Goals as goal

pub returns : goal.returns
returns c =
    let a = range_ends c.args.a.now in
    let m = range_ends c.args.m.now in
    product_answers product_high high_number (λ o. refl) a m (high_exact a m) (high_corners a m (AreEnds-range c.args.a.now) (AreEnds-range c.args.m.now))
    c.product_high_at.result c.product_high_at-2.result c.product_high_at-3.result c.product_high_at-4.result
    c.product_high_at.ensures c.product_high_at-2.ensures c.product_high_at-3.ensures c.product_high_at-4.ensures
    c.around_tries.result c.around_tries.ensures
