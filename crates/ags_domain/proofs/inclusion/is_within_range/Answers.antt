use Rattle.std.proofs.Common.{◌∙◌, ap, sym}
use Rattle.std.specs.Prelude.{◌&&◌}
use Rattle.ags_domain.specs.Range.{range_ends, lies_between}
use Rattle.ags_domain.specs.Value.{value_ends}
use Rattle.ags_domain.proofs.ValueLaws.{in_range, ends_in_range}
use Rattle.ags_domain.proofs.inclusion.is_within_range.Goals as goal

pub returns : goal.returns
returns c =
    let v = c.args.value.now in
    let ends = range_ends c.args.range.now in
    let is = c.has_ends.ensures
    ∙ ap (λ w. lies_between ends w && lies_between ends c.greatest_word.result) c.least_word.ensures
    ∙ ap (λ w. lies_between ends (value_ends v).least && lies_between ends w) c.greatest_word.ensures in
    (λ h. in_range v ends (sym is ∙ h), λ h. is ∙ ends_in_range v ends h)
