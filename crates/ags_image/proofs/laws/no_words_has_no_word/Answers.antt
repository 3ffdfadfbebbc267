use Rattle.ags_image.proofs.ImageLaws.{IsImage-no_words, entry_at-no_words}
use Rattle.ags_image.proofs.laws.no_words_has_no_word.Goals as goal

pub returns-clause-image : goal.returns-clause-image
returns-clause-image c = IsImage-no_words

pub returns-clause-entry : goal.returns-clause-entry
returns-clause-entry c = entry_at-no_words
