use Rattle.ags_deda.proofs.DisplayLaws.{entry_text, entry_unsent}
use Rattle.ags_deda.proofs.laws.entries_send_their_digits.Goals as goal

pub returns-clause-text : goal.returns-clause-text
returns-clause-text c = entry_text

pub returns-clause-unsent : goal.returns-clause-unsent
returns-clause-unsent c = entry_unsent
