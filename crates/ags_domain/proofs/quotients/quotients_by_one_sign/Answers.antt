use Rattle.std.proofs.Common.{sym, ◌∙◌, ap, [], ◌∷◌}
use Rattle.ags_word.specs.Operation.{quotient}
use Rattle.ags_domain.specs.LowBits.{all_ones}
use Rattle.ags_domain.specs.Hull.{tried}
use Rattle.ags_domain.specs.Candidates.{quotient_candidates}
use Rattle.ags_domain.specs.Range.{range_ends}
use Rattle.ags_domain.proofs.HullLaws.{AreEnds-range}
use Rattle.ags_domain.proofs.CornerLaws.{low_low, low_high, high_low, high_high, around_answers, answers_along}
use Rattle.ags_domain.proofs.QuotientLaws.{quotient_number, quotient_exact, quotient_corners, quotient_told}
use Rattle.ags_domain.proofs.quotients.quotients_by_one_sign.Goals as goal

pub returns : goal.returns
returns c =
    let a = range_ends c.args.a.now in
    let m = range_ends c.args.m.now in
    let is_a = AreEnds-range c.args.a.now in
    let is_m = AreEnds-range c.args.m.now in
    answers_along quotient a m (λ a m. low_low a m ∷ low_high a m ∷ high_low a all_ones m ∷ high_high a all_ones m ∷ []) quotient_candidates
    (quotient_told a m is_a is_m c.requires) c.around_tries.result
    (around_answers quotient quotient_number a m (low_low a m) (low_high a m) (high_low a all_ones m) (high_high a all_ones m)
    (quotient_exact a m is_a is_m c.requires) (quotient_corners a m is_a is_m c.requires)
    c.quotient_at.result c.quotient_at-2.result c.quotient_at-3.result c.quotient_at-4.result
    (sym c.quotient_at.ensures) (sym c.quotient_at-2.ensures)
    (ap (λ q. tried quotient (high_low a q m)) (sym c.low_bits.ensures) ∙ sym c.quotient_at-3.ensures)
    (ap (λ q. tried quotient (high_high a q m)) (sym c.low_bits-2.ensures) ∙ sym c.quotient_at-4.ensures)
    c.around_tries.result c.around_tries.ensures)
