use Rattle.ags_deda.proofs.DisplayLaws.{wrong_text, wrong_unsent}
use Rattle.ags_deda.proofs.KeyLemmas.{unlawful_more}
use Rattle.ags_deda.proofs.laws.wrong_keys_light_the_light.Goals as goal

pub returns-clause-text : goal.returns-clause-text
returns-clause-text c = wrong_text

pub returns-clause-unsent : goal.returns-clause-unsent
returns-clause-unsent c = wrong_unsent

pub returns-clause-stay : goal.returns-clause-stay
returns-clause-stay c = unlawful_more
