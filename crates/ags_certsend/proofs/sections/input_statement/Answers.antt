use Rattle.std.proofs.Common.{◌∙◌, ap}
use Rattle.ags_domain.specs.declared.values.Value.{Value}
use Rattle.ags_row.specs.Limit.{Limiting, input_limit}
use Rattle.ags_certtext.specs.declared.kinds.Table.TheVariants as table
use Rattle.ags_certsend.specs.CertText.{input_statement, limited, stating}
use Rattle.ags_certsend.proofs.sections.input_statement.Goals as goal

pub returns : goal.returns
unfolding input_statement
returns c =
    c.limited.ensures
    ∙ ap (λ (limit : Value). stating table.In (limited c.args.address limit)) (c.input.ensures ∙ ap (λ (limits : Limiting Value). input_limit limits c.args.address) c.limits.ensures.limits)
