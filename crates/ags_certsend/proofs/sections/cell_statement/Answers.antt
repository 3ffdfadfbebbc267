use Rattle.std.proofs.Common.{◌∙◌, ap}
use Rattle.ags_domain.specs.declared.values.Value.{Value}
use Rattle.ags_row.specs.Limit.{Limiting, cell_limit}
use Rattle.ags_certtext.specs.declared.kinds.Table.TheVariants as table
use Rattle.ags_certsend.specs.CertText.{cell_statement, limited, stating}
use Rattle.ags_certsend.proofs.sections.cell_statement.Goals as goal

pub returns : goal.returns
unfolding cell_statement
returns c =
    c.limited.ensures
    ∙ ap (λ (limit : Value). stating table.Cell (limited c.args.address limit)) (c.cell.ensures ∙ ap (λ (limits : Limiting Value). cell_limit limits c.args.address) c.limits.ensures.limits)
