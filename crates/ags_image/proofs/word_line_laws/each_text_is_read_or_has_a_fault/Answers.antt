use Rattle.ags_image.proofs.MeaningLemmas.{each_means, one_reading}
use Rattle.ags_image.proofs.word_line_laws.each_text_is_read_or_has_a_fault.Goals as goal

pub returns-clause-some : goal.returns-clause-some
returns-clause-some c = λ form lines puts. each_means form puts lines

pub returns-clause-one : goal.returns-clause-one
returns-clause-one c = one_reading
