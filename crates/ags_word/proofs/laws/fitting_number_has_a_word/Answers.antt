use Rattle.ags_word.proofs.WordLaws.{word_of_value-fits, word_of_value-not}
use Rattle.ags_word.proofs.laws.fitting_number_has_a_word.Goals as goal

pub returns-clause-some : goal.returns-clause-some
returns-clause-some c = word_of_value-fits

pub returns-clause-none : goal.returns-clause-none
returns-clause-none c = word_of_value-not
