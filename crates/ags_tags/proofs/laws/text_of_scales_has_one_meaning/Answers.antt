use Rattle.std.proofs.Common.{subst, List, sym}
use Rattle.ags_tags.specs.declared.statements.ScaleLine.{ScaleLine}
use Rattle.ags_tags.specs.Text.{AreScales, faults, scales_name}
use Rattle.ags_tags.proofs.LineLemmas.{name_field}
use Rattle.ags_tags.proofs.MeaningLemmas.{some_scales}
use Rattle.ags_tags.proofs.TagLemmas.{one_scales}
use Rattle.ags_tags.proofs.laws.text_of_scales_has_one_meaning.Goals as goal

pub returns-clause-some : goal.returns-clause-some
returns-clause-some c ports rows text =
    some_scales ports rows text (c.text_of_statements_has_one_meaning.ensures.some scales_name 1 (faults ports rows) text name_field)

pub returns-clause-rows : goal.returns-clause-rows
returns-clause-rows c ports rows text scales is = is.are_scales.of_rows.count

pub returns-clause-scales : goal.returns-clause-scales
returns-clause-scales c ports rows text one other is also =
    let lines = c.text_of_statements_has_one_meaning.ensures.text scales_name 1 (faults ports rows) text is.lines also.lines name_field is.is_text also.is_text in
    one_scales rows is.lines one other is.are_scales (subst (λ (l : List ScaleLine). AreScales rows l other) (sym lines) also.are_scales)

pub returns-clause-fault : goal.returns-clause-fault
returns-clause-fault c ports rows text line other_line kind other_kind is also =
    c.text_of_statements_has_one_meaning.ensures.fault scales_name 1 (faults ports rows) text line other_line kind other_kind name_field is also

pub returns-clause-not_both : goal.returns-clause-not_both
returns-clause-not_both c ports rows text scales line kind is faulty =
    c.text_of_statements_has_one_meaning.ensures.not_both scales_name 1 (faults ports rows) text is.lines line kind name_field is.is_text faulty
