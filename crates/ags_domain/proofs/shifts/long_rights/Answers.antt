use Rattle.std.proofs.Common.{refl}
use Rattle.ags_word.specs.Operation.{long_right_high}
use Rattle.ags_domain.specs.LowBits.{all_ones}
use Rattle.ags_domain.specs.Hull.{new_a_at, no_cell}
use Rattle.ags_domain.specs.Candidates.{operands}
use Rattle.ags_domain.specs.Range.{range_ends}
use Rattle.ags_domain.proofs.HullLaws.{span_ordered, span_interval, AreEnds-range}
use Rattle.ags_domain.proofs.ShiftLaws.{long_right_number, long_right_exact, long_right_span}
use Rattle.ags_domain.proofs.shifts.long_rights.Goals as goal

pub spanning-requires : goal.spanning-requires
spanning-requires c =
    let a = c.args.a.now in
    let n = c.args.count in
    rw (c.long_right_at.ensures, c.long_right_at-2.ensures, c.low_bits.ensures)
    (span_ordered (long_right_high n) (long_right_number n) (range_ends a) no_cell (operands a.least 0 0) (operands a.greatest all_ones 0)
    (new_a_at (long_right_high n) (operands a.least 0 0)) (new_a_at (long_right_high n) (operands a.greatest all_ones 0))
    (long_right_exact n (range_ends a) no_cell) (long_right_span n (range_ends a) (AreEnds-range a)) refl refl)

pub returns : goal.returns
returns c =
    let a = c.args.a.now in
    let n = c.args.count in
    span_interval (long_right_high n) (long_right_number n) (range_ends a) no_cell (operands a.least 0 0) (operands a.greatest all_ones 0)
    (new_a_at (long_right_high n) (operands a.least 0 0)) (new_a_at (long_right_high n) (operands a.greatest all_ones 0))
    (long_right_exact n (range_ends a) no_cell) (long_right_span n (range_ends a) (AreEnds-range a)) refl refl
    c.spanning.result (rw (← c.low_bits.ensures, ← c.long_right_at.ensures, ← c.long_right_at-2.ensures) c.spanning.ensures)
