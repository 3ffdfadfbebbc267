use Rattle.std.proofs.Common.{sym, ◌∙◌, [], ◌∷◌}
use Rattle.ags_word.specs.Operation.{size}
use Rattle.ags_domain.specs.Hull.{no_cell}
use Rattle.ags_domain.specs.Candidates.{operands, sign_candidates}
use Rattle.ags_domain.specs.Range.{range_ends}
use Rattle.ags_domain.proofs.HullLaws.{AreEnds-range}
use Rattle.ags_domain.proofs.CornerLaws.{answers_along}
use Rattle.ags_domain.proofs.SignLaws.{zero_below, across_answers, size_told}
use Rattle.ags_domain.proofs.signs.sizes_across.Goals as goal

pub from_zero-requires : goal.from_zero-requires
from_zero-requires c =
    let a = c.args.a.now in
    λ f s k h. zero_below (range_ends a) (AreEnds-range a) c.requires.least c.requires.greatest f s (sym c.size_at.ensures ∙ k) (sym c.size_at-2.ensures ∙ h)

pub returns : goal.returns
returns c =
    let a = c.args.a.now in
    answers_along size (range_ends a) no_cell (λ a_ends m_ends. operands a_ends.least 0 0 ∷ operands a_ends.greatest 0 0 ∷ []) sign_candidates
    (size_told (range_ends a) a.least a.greatest) c.from_zero.result
    (across_answers (range_ends a) (AreEnds-range a) c.requires.least c.requires.greatest c.size_at.result c.size_at-2.result
    (sym c.size_at.ensures) (sym c.size_at-2.ensures) c.from_zero.result c.from_zero.ensures)
