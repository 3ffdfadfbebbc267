use Rattle.std.proofs.Common.{◌∙◌, ap, ◌-ℤ◌, ℤ}
use Rattle.ags_safe.specs.Linked.{link_of}
use Rattle.ags_transfer.proofs.LinkLemmas.{difference_kept}
use Rattle.ags_transfer.proofs.links.after_sum.Goals as goal

pub returns : goal.returns
returns c =
    let link = c.args.link in
    c.standing.ensures
    ∙ ap (λ (n : ℤ). link_of link.address n) (difference_kept link c.requires c.value.result c.value.ensures.least c.value.ensures.most)
    ∙ ap (λ (n : ℤ). link_of link.address (link.offset -ℤ n)) c.value.ensures.same
