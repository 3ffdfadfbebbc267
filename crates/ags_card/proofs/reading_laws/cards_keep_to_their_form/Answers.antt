use Rattle.ags_card.proofs.LimitLaws.{card_limits, card_symbol, equ_has_symbol, comment_no_symbol, bare_order}
use Rattle.ags_card.proofs.reading_laws.cards_keep_to_their_form.Goals as goal

pub returns : goal.returns
returns c = record { limits = card_limits; symbol = card_symbol; equ = equ_has_symbol; comment = comment_no_symbol; bare = bare_order }
