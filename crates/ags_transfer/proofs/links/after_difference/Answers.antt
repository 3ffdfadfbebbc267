use Rattle.std.proofs.Common.{◌∙◌, ap, ◌+ℤ◌, ℤ}
use Rattle.ags_word.specs.Word.{val}
use Rattle.ags_safe.specs.Linked.{link_of}
use Rattle.ags_transfer.proofs.LinkLemmas.{sum_kept, taken_away}
use Rattle.ags_transfer.proofs.links.after_difference.Goals as goal

pub returns : goal.returns
returns c =
    let link = c.args.link in
    c.standing.ensures
    ∙ ap (λ (n : ℤ). link_of link.address n) (sum_kept link c.requires c.value.result c.value.ensures.least c.value.ensures.most)
    ∙ ap (λ (n : ℤ). link_of link.address (n +ℤ link.offset)) c.value.ensures.same
    ∙ ap (λ (n : ℤ). link_of link.address n) (taken_away link.offset (val c.args.word))
