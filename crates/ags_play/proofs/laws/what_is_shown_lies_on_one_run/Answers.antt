use Rattle.ags_play.proofs.CutLemmas.{cut, cut_along}
use Rattle.ags_play.proofs.laws.what_is_shown_lies_on_one_run.Goals as goal

pub returns-clause-split : goal.returns-clause-split
returns-clause-split c = λ machine guard b first second events text after met p. cut machine guard b after first second events text met p

pub returns-clause-along : goal.returns-clause-along
returns-clause-along c = λ machine guard b first second events text after met all h p r.
    cut_along machine guard b after first second events text met all h p r
