use Rattle.ags_symbol.proofs.SplitLemmas.{open_few, open_small}
use Rattle.ags_symbol.proofs.symbols.Symbols.split.Goals as goal

pub returns-clause-few : goal.returns-clause-few
returns-clause-few c =
    rw c.split_terms-sum.ensures.open (open_few c.args.self.now c.args.here _ c.items.result.now c.items.ensures.terms c.none-unknown.ensures)

pub returns-clause-numbers : goal.returns-clause-numbers
returns-clause-numbers c =
    rw c.split_terms-sum.ensures.open (open_small c.args.self.now c.args.here _ c.items.result.now c.items.ensures.terms c.none-unknown.ensures)
