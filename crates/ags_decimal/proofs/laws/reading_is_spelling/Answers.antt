use Rattle.ags_decimal.proofs.SpellingLaws.{reading-spells, spelled-reading}
use Rattle.ags_decimal.proofs.laws.reading_is_spelling.Goals as goal

pub returns : goal.returns
returns c = record { spells = reading-spells; is_read = spelled-reading }
