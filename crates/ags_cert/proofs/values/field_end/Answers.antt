use Rattle.std.proofs.Common.{ap, ◌∙◌}
use Rattle.ags_text.specs.Field.{behind_field}
use Rattle.ags_cert.proofs.LongestLemmas.{all_left, left_is}
use Rattle.ags_cert.proofs.values.field_end.Goals as goal

pub overflow_sub-result : goal.overflow_sub-result
overflow_sub-result c =
    let behind = c.split_field.ensures.behind ∙ ap behind_field (all_left c.args.line.now c.args.from) in
    (left_is c.args.line.now c.split_field.result.1.now c.args.from c.requires behind).1

pub returns-clause-ordered : goal.returns-clause-ordered
returns-clause-ordered c =
    let behind = c.split_field.ensures.behind ∙ ap behind_field (all_left c.args.line.now c.args.from) in
    (left_is c.args.line.now c.split_field.result.1.now c.args.from c.requires behind).0

pub returns-clause-left : goal.returns-clause-left
returns-clause-left c =
    let behind = c.split_field.ensures.behind ∙ ap behind_field (all_left c.args.line.now c.args.from) in
    (left_is c.args.line.now c.split_field.result.1.now c.args.from c.requires behind).2 ∙ behind
