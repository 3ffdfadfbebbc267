use Rattle.std.proofs.Common.{rules}
use Rattle.ags_text.proofs.NumberLaws.{number_read}
use Rattle.ags_text.proofs.numerals.read_decimal.Goals as goal

pub returns-clause-found : goal.returns-clause-found
returns-clause-found c = search rules

pub returns-clause-only : goal.returns-clause-only
returns-clause-only c = search rules

pub returns-clause-same : goal.returns-clause-same
returns-clause-same c = number_read 10 9 c.args.text.now c.read_digits.result c.read_digits.ensures.found c.read_digits.ensures.only
