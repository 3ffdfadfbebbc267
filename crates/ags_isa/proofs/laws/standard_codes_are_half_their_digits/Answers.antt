use Rattle.ags_isa.proofs.CodeLemmas.{standard_code-half, standard_digits-used}
use Rattle.ags_isa.proofs.laws.standard_codes_are_half_their_digits.Goals as goal

pub returns-clause-half : goal.returns-clause-half
returns-clause-half c = standard_code-half

pub returns-clause-unused : goal.returns-clause-unused
returns-clause-unused c = standard_digits-used
