use Rattle.ags_text.proofs.FieldLaws.{blanks_end, none_blank}
use Rattle.ags_text.proofs.field_laws.blanks_have_no_field.Goals as goal

pub returns-clause-none : goal.returns-clause-none
returns-clause-none c = blanks_end

pub returns-clause-blanks : goal.returns-clause-blanks
returns-clause-blanks c = none_blank
