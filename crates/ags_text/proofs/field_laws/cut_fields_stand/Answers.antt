use Rattle.ags_text.proofs.FieldLaws.{cut_standing, cut_behind}
use Rattle.ags_text.proofs.field_laws.cut_fields_stand.Goals as goal

pub returns-clause-in_line : goal.returns-clause-in_line
returns-clause-in_line c = cut_standing

pub returns-clause-behind : goal.returns-clause-behind
returns-clause-behind c = cut_behind
