use Rattle.std.proofs.Common.{rules}
use Rattle.ags_text.specs.Field.{next_field, behind_field}
use Rattle.ags_text.proofs.fields.split_field.Goals as goal

pub returns-clause-field : goal.returns-clause-field
unfolding next_field behind_field
returns-clause-field c = search rules

pub returns-clause-behind : goal.returns-clause-behind
unfolding next_field behind_field
returns-clause-behind c = search rules
