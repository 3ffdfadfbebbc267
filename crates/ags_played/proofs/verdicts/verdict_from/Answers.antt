use Rattle.ags_played.proofs.verdicts.verdict_from.Goals as goal

pub returns : goal.returns
returns g c = c.check.ensures.verdict
