use Rattle.std.proofs.Common.{◌∙◌, sym}
use Rattle.ags_text.proofs.CutLemmas.{cut_is_lines}
use Rattle.ags_text.proofs.line_laws.text_is_cut_in_one_way.Goals as goal

pub returns : goal.returns
returns c = λ text one other first second. cut_is_lines 0 text one first ∙ sym (cut_is_lines 0 text other second)
