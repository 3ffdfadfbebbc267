use Rattle.ags_card.proofs.CardLaws.{reading-spells, spelled-reading}
use Rattle.ags_card.proofs.reading_laws.lines_spell_what_is_read.Goals as goal

pub returns : goal.returns
returns c = record { found = reading-spells; only = spelled-reading }
