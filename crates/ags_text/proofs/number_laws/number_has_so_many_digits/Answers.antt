use Rattle.ags_text.proofs.NumberLaws.{number_short, number_long, number_below}
use Rattle.ags_text.proofs.number_laws.number_has_so_many_digits.Goals as goal

pub returns-clause-short : goal.returns-clause-short
returns-clause-short c = number_short

pub returns-clause-long : goal.returns-clause-long
returns-clause-long c = number_long

pub returns-clause-below : goal.returns-clause-below
returns-clause-below c = number_below
