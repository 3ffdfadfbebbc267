use Rattle.ags_top.proofs.CertifiedLineLemmas.{line_begins}
use Rattle.ags_top.proofs.answer_laws.certified_lines_begin_with_certified.Goals as goal

pub returns : goal.returns
returns c = line_begins
