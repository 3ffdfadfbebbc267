use Rattle.std.proofs.Common.{◌∙◌, sym}
use Rattle.ags_domain.specs.declared.values.Value.TheVariants.{Range as ByEnds}
use Rattle.ags_domain.proofs.ValueLaws.{set_in, in_set, too_many_in}
use Rattle.ags_domain.proofs.inclusion.is_range_within.Goals as goal

pub returns-in-Some : goal.returns-in-Some
returns-in-Some c =
    let v = ByEnds c.args.range.now in
    let set = c.args.set.now in
    (λ h. set_in v c.in-Some.words set c.in-Some.ensures (sym c.is_within.ensures ∙ h), λ h. c.is_within.ensures ∙ in_set v c.in-Some.words set c.in-Some.ensures h)

pub returns-in-None : goal.returns-in-None
returns-in-None c = (λ h. absurd cc, λ h. absurd (too_many_in (ByEnds c.args.range.now) c.args.set.now c.in-None.ensures h))
