use Rattle.ags_text.proofs.NumberLaws.{writes_number, number_writes}
use Rattle.ags_text.proofs.number_laws.digits_of_a_width_are_a_number.Goals as goal

pub returns-clause-number : goal.returns-clause-number
returns-clause-number c = writes_number

pub returns-clause-width : goal.returns-clause-width
returns-clause-width c = number_writes
