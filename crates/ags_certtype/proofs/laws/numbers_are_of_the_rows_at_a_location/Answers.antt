use Rattle.ags_certtype.proofs.NumberLemmas.{of_a_row, each_listed, numbers_ascend}
use Rattle.ags_certtype.proofs.laws.numbers_are_of_the_rows_at_a_location.Goals as goal

pub returns-clause-each : goal.returns-clause-each
returns-clause-each c = of_a_row

pub returns-clause-all : goal.returns-clause-all
returns-clause-all c = each_listed

pub returns-clause-ascending : goal.returns-clause-ascending
returns-clause-ascending c = numbers_ascend
