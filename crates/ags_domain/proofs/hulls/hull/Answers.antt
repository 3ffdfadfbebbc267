use Rattle.ags_domain.proofs.HullLaws.{lesser_greater}
use Rattle.ags_domain.proofs.hulls.hull.Goals as goal

pub spanning-requires : goal.spanning-requires
spanning-requires c =
    let left = c.args.left.now in
    let right = c.args.right.now in
    rw (c.lesser_word.ensures, c.greater_word.ensures) (lesser_greater left.least left.greatest right.least right.greatest left.ordered right.ordered)
