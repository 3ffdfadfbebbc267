use Rattle.ags_text.proofs.NumberLaws.{number_read}
use Rattle.ags_text.proofs.numerals.read_octal.Goals as goal

pub returns-clause-same : goal.returns-clause-same
returns-clause-same c = number_read 8 6 c.args.text.now c.read_digits.result c.read_digits.ensures.found c.read_digits.ensures.only
