use Rattle.ags_image.proofs.ReadLemmas.{read_faultless}
use Rattle.ags_image.proofs.word_line_laws.read_text_has_no_fault.Goals as goal

pub returns : goal.returns
returns c = read_faultless
