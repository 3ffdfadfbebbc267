use Rattle.ags_text.proofs.NumberLaws.{number_told, number_written, number_read}
use Rattle.ags_text.proofs.number_laws.number_is_what_digits_write.Goals as goal

pub returns-clause-told : goal.returns-clause-told
returns-clause-told c = number_told

pub returns-clause-written : goal.returns-clause-written
returns-clause-written c = number_written

pub returns-clause-read : goal.returns-clause-read
returns-clause-read c = number_read
