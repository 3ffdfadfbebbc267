use Rattle.ags_image.proofs.ColumnLemmas.{printed_columns}
use Rattle.ags_image.proofs.word_line_laws.printed_columns_are_read.Goals as goal

pub returns : goal.returns
returns c = printed_columns
