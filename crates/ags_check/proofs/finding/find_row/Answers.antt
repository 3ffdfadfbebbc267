use Rattle.std.proofs.Common.{List, sym, ap, subst, ◌∙◌}
use Rattle.ags_domain.specs.declared.values.Value.{Value}
use Rattle.ags_row.specs.declared.rows.Row.{Row}
use Rattle.ags_certtype.specs.Index.{numbers_at}
use Rattle.ags_check.specs.Finding.{IsFound}
use Rattle.ags_check.proofs.finding.find_row.Goals as goal

pub find_numbered-requires-clause-numbers : goal.find_numbered-requires-clause-numbers
find_numbered-requires-clause-numbers g c =
    c.at_location.ensures ∙ ap (λ (rows : List (Row Value)). numbers_at rows c.args.location) (sym c.rows.ensures.rows)

pub returns : goal.returns
returns g c = subst (λ (rows : List (Row Value)). IsFound (λ n r. g.T.RowTest.has c.args.test.now n r) rows c.find_numbered.result)
    c.rows.ensures.rows c.find_numbered.ensures
