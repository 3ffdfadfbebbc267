use Rattle.ags_deda.proofs.DisplayLaws.{held_text, outside_text}
use Rattle.ags_deda.proofs.laws.hold_keeps_the_display.Goals as goal

pub returns-clause-held : goal.returns-clause-held
returns-clause-held c = held_text

pub returns-clause-outside : goal.returns-clause-outside
returns-clause-outside c = outside_text
