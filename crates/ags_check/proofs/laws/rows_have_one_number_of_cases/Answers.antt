use Rattle.ags_check.proofs.CountedLemmas.{some_cases, one_cases, told_cases}
use Rattle.ags_check.proofs.laws.rows_have_one_number_of_cases.Goals as goal

pub returns-clause-some : goal.returns-clause-some
returns-clause-some c = λ image limits rows is. some_cases image limits (λ row. c.each_row_has_a_code.ensures image limits row is) rows

pub returns-clause-one : goal.returns-clause-one
returns-clause-one c = one_cases

pub returns-clause-told : goal.returns-clause-told
returns-clause-told c = told_cases
