use Rattle.ags_safe.proofs.CodeLemmas.{code_has_word, code_one}
use Rattle.ags_safe.proofs.post_laws.code_has_the_word_of_each_state.Goals as goal

pub returns-clause-word : goal.returns-clause-word
returns-clause-word g c = λ machine image limits row set s is in_row code. code_has_word g.D.Domain.meaning image limits row set machine s is in_row code

pub returns-clause-one : goal.returns-clause-one
returns-clause-one g c = code_one g.D.Domain.meaning
