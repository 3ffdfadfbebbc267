use Rattle.std.proofs.Common.{◌∙◌, ap}
use Rattle.ags_domain.specs.Range.{range_ends, hull_of}
use Rattle.ags_domain.specs.Value.{value_ends}
use Rattle.ags_domain.proofs.ValueLaws.{joined_few, joined_many}
use Rattle.ags_domain.proofs.value_domain.ValueDomain.join.Goals as goal

pub returns-in-Some : goal.returns-in-Some
returns-in-Some c = joined_few c.args.self.now c.args.other.now c.in-Some.set c.in-Some.ensures

pub returns-in-None : goal.returns-in-None
returns-in-None c =
    joined_many c.args.self.now c.args.other.now c.hull.result
    (c.hull.ensures ∙ ap (λ ends. hull_of ends (range_ends c.span-in-None.result)) c.span.ensures ∙ ap (hull_of (value_ends c.args.self.now)) c.span-in-None.ensures)
    c.in-None.ensures
