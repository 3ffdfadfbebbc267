use Rattle.ags_text.proofs.CutLemmas.{lines_are_cut}
use Rattle.ags_text.proofs.line_laws.lines_make_up_the_text.Goals as goal

pub returns : goal.returns
returns c = lines_are_cut
