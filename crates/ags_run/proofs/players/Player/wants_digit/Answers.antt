use Rattle.std.proofs.Common.{rules}
use Rattle.ags_run.proofs.players.Player.wants_digit.Goals as goal

pub returns-in-None : goal.returns-in-None
returns-in-None c = search rules
