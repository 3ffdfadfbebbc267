use Rattle.ags_certsend.proofs.ReadLemmas.{readings_of, text_read}
use Rattle.ags_certsend.proofs.laws.sent_lines_are_read.Goals as goal

pub returns : goal.returns
unfolding readings_of
returns c = text_read
