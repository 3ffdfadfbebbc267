use Rattle.std.proofs.Common.{◌∙◌, ap}
use Rattle.ags_domain.specs.declared.values.Value.{Value}
use Rattle.ags_row.specs.Limit.{Limiting, output_limit}
use Rattle.ags_certtext.specs.declared.kinds.Table.TheVariants as table
use Rattle.ags_certsend.specs.CertText.{output_statement, limited, stating}
use Rattle.ags_certsend.proofs.sections.output_statement.Goals as goal

pub returns : goal.returns
unfolding output_statement
returns c =
    c.limited.ensures
    ∙ ap (λ (limit : Value). stating table.Out (limited c.args.address limit)) (c.output.ensures ∙ ap (λ (limits : Limiting Value). output_limit limits c.args.address) c.limits.ensures.limits)
