use Rattle.ags_row.proofs.LimitLemmas.{output_read}
use Rattle.ags_row.proofs.limits.Limits.output.Goals as goal

pub returns : goal.returns
returns g c = output_read _ _ c.args.address c.index.result.now c.self.view_is c.self.invariant.tables c.requires c.index.ensures
