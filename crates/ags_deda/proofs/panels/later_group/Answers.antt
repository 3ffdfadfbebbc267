use Rattle.std.proofs.Common.{rules}
use Rattle.ags_deda.proofs.panels.later_group.Goals as goal

pub returns-then-held : goal.returns-then-held
returns-then-held c = search rules
