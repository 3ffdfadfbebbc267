use Rattle.ags_isa.proofs.WordLemmas.{code_over, code_names}
use Rattle.ags_isa.proofs.laws.code_of_a_word_names_its_order.Goals as goal

pub returns-clause-code : goal.returns-clause-code
returns-clause-code c = code_over

pub returns-clause-named : goal.returns-clause-named
returns-clause-named c = code_names
