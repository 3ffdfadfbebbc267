use Rattle.std.proofs.Common.{List, subst}
use Rattle.std.specs.Prelude.{Some}
use Rattle.ags_domain.specs.declared.values.Value.{Value}
use Rattle.ags_row.specs.declared.rows.Row.{Row}
use Rattle.ags_check.specs.Finding.{IsFound}
use Rattle.ags_check.proofs.finding.find_row_from.Goals as goal

pub returns-then-passes_at : goal.returns-then-passes_at
returns-then-passes_at g c = subst (λ (rows : List (Row Value)). IsFound (λ n r. g.T.RowTest.has c.args.test.now n r) rows (Some c.args.likely))
    c.rows.ensures.rows (c.passes_at.ensures c.if-passes_at.true)
