use Rattle.std.proofs.Common.{rules}
use Rattle.ags_run.proofs.players.Player.put.Goals as goal

pub returns : goal.returns
returns c = search rules
