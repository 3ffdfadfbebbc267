use Rattle.ags_image.proofs.CutLemmas.{lines_are_cut, one_cut}
use Rattle.ags_image.proofs.word_line_laws.text_is_cut_at_feeds.Goals as goal

pub returns-clause-cut : goal.returns-clause-cut
returns-clause-cut c = lines_are_cut

pub returns-clause-one : goal.returns-clause-one
returns-clause-one c = one_cut
