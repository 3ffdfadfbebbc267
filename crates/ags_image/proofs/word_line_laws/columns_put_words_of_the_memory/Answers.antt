use Rattle.ags_image.proofs.ColumnLemmas.{columns_in_memory}
use Rattle.ags_image.proofs.word_line_laws.columns_put_words_of_the_memory.Goals as goal

pub returns : goal.returns
returns c = columns_in_memory
