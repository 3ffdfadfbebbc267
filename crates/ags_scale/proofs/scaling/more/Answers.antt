use Rattle.std.proofs.Common.{◌≡◌, rules, arith}
use Rattle.std.specs.Prelude.{FitsSigned}
use Rattle.std.specs.Int.{w8}
use Rattle.std.proofs.lemmas.Int.{ints}
use Rattle.ags_tags.specs.declared.tags.Tag.TheVariants.{Scale}
use Rattle.ags_scale.proofs.ScalingLemmas.{more_is}
use Rattle.ags_scale.proofs.scaling.more.Goals as goal

pub overflow_add-from : goal.overflow_add-from
overflow_add-from c = omega (arith, ints)

pub returns-in-Known-Scale : goal.returns-in-Known-Scale
returns-in-Known-Scale c =
    let fits : FitsSigned w8 c.in-Known-Scale.scale = search rules in
    let known : c.in-Known-Scale.field-0 ≡ Scale c.in-Known-Scale.scale = search rules in
    more_is c.in-Known-Scale.scale c.args.by c.from.result c.from-in-Known-Scale.result fits c.ranges.by c.from.ensures c.from-in-Known-Scale.ensures
    c.args.tag c.in-Known-Scale.field-0 c.in-Known-Scale.is known c.tag_of.result c.tag_of.ensures
