use Rattle.std.proofs.Common.{rules}
use Rattle.ags_script.proofs.counting.lacks_port.Goals as goal

pub returns-in-Feed : goal.returns-in-Feed
returns-in-Feed c = search rules
