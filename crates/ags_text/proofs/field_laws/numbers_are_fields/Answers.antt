use Rattle.ags_text.proofs.FieldLaws.{number_field, writes_field}
use Rattle.ags_text.proofs.field_laws.numbers_are_fields.Goals as goal

pub returns-clause-some : goal.returns-clause-some
returns-clause-some c = number_field

pub returns-clause-width : goal.returns-clause-width
returns-clause-width c = writes_field
