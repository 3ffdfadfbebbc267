use Rattle.ags_card.proofs.TermLemmas.{position_or_len_is}
use Rattle.ags_card.specs.Reading.{is_sign}
use Rattle.ags_card.proofs.expressions.front_len.Goals as goal

pub returns-clause-place : goal.returns-clause-place
returns-clause-place c = rw (c.unwrap_or.ensures, c.first_sign.ensures) (position_or_len_is is_sign c.args.text.now)
