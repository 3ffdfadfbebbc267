use Rattle.ags_deda.proofs.DisplayLaws.{groups_text}
use Rattle.ags_deda.proofs.laws.groups_are_displayed.Goals as goal

pub returns : goal.returns
returns c = groups_text
