use Rattle.std.proofs.Common.{rules}
use Rattle.ags_drive.proofs.feeding.takes_word.Goals as goal

pub returns-else-not-is_once : goal.returns-else-not-is_once
returns-else-not-is_once c = search rules
