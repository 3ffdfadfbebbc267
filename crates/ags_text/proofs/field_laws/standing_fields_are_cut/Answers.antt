use Rattle.ags_text.proofs.FieldLaws.{standing_cut, standing_behind}
use Rattle.ags_text.proofs.field_laws.standing_fields_are_cut.Goals as goal

pub returns-clause-in_line : goal.returns-clause-in_line
returns-clause-in_line c = standing_cut

pub returns-clause-behind : goal.returns-clause-behind
returns-clause-behind c = standing_behind
