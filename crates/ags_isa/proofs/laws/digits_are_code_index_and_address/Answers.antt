use Rattle.ags_isa.proofs.WordLemmas.{two_digits, four_digits}
use Rattle.ags_isa.proofs.laws.digits_are_code_index_and_address.Goals as goal

pub returns-clause-digits : goal.returns-clause-digits
returns-clause-digits c = two_digits

pub returns-clause-address : goal.returns-clause-address
returns-clause-address c = four_digits
