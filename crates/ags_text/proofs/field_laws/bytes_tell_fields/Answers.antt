use Rattle.ags_text.proofs.FieldLaws.{first_byte, no_blank_text}
use Rattle.ags_text.proofs.field_laws.bytes_tell_fields.Goals as goal

pub returns-clause-first : goal.returns-clause-first
returns-clause-first c = first_byte

pub returns-clause-tested : goal.returns-clause-tested
returns-clause-tested c = no_blank_text
