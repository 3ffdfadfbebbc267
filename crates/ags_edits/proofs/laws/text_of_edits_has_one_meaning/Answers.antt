use Rattle.std.proofs.Common.{subst, List, sym}
use Rattle.ags_edits.specs.declared.edits.Edit.{Edit}
use Rattle.ags_edits.specs.declared.statements.EditLine.{EditLine}
use Rattle.ags_edits.specs.Text.{AreEditsOf, edits_name, faults}
use Rattle.ags_edits.proofs.LineLemmas.{name_field}
use Rattle.ags_edits.proofs.MeaningLemmas.{one_list, some_edits}
use Rattle.ags_edits.proofs.laws.text_of_edits_has_one_meaning.Goals as goal

pub returns-clause-some : goal.returns-clause-some
returns-clause-some c text = some_edits text (c.text_of_statements_has_one_meaning.ensures.some edits_name 1 faults text name_field)

pub returns-clause-edits : goal.returns-clause-edits
returns-clause-edits c text one other is also =
    let lines = c.text_of_statements_has_one_meaning.ensures.text edits_name 1 faults text is.lines also.lines name_field is.is_text also.is_text in
    one_list is.lines one other is.are_edits (subst (λ (l : List EditLine). AreEditsOf l other) (sym lines) also.are_edits)

pub returns-clause-fault : goal.returns-clause-fault
returns-clause-fault c text line other_line kind other_kind is also =
    c.text_of_statements_has_one_meaning.ensures.fault edits_name 1 faults text line other_line kind other_kind name_field is also

pub returns-clause-not_both : goal.returns-clause-not_both
returns-clause-not_both c text edits line kind is faulty =
    c.text_of_statements_has_one_meaning.ensures.not_both edits_name 1 faults text is.lines line kind name_field is.is_text faulty
