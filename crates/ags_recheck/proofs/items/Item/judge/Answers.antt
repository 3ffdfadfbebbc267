use Rattle.ags_recheck.proofs.items.Item.judge.Goals as goal

pub returns-clause-kept : goal.returns-clause-kept
returns-clause-kept g c = c.row_noted-self.ensures.kept
