use Rattle.ags_deda.proofs.DisplayLaws.{clr_text, clr_unsent}
use Rattle.ags_deda.proofs.laws.clr_begins_anew.Goals as goal

pub returns-clause-text : goal.returns-clause-text
returns-clause-text c = clr_text

pub returns-clause-unsent : goal.returns-clause-unsent
returns-clause-unsent c = clr_unsent
