use Rattle.std.proofs.Common.{rules}
use Rattle.ags_decimal.specs.Reading.{signed_reading}
use Rattle.ags_decimal.proofs.numbers.read_signed.Goals as goal

pub returns-then-begins_with_minus-clause-same : goal.returns-then-begins_with_minus-clause-same
unfolding signed_reading
returns-then-begins_with_minus-clause-same c = search rules
