use Rattle.std.proofs.Common.{append_assoc}
use Rattle.ags_certsend.proofs.spelling.SpelledEntryDisplay.fmt.Goals as goal

pub returns-clause-writes : goal.returns-clause-writes
returns-clause-writes g c = rw append_assoc c.write.ensures.writes
