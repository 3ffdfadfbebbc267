use Rattle.ags_image.proofs.TapeOrderLemmas.{tape_words}
use Rattle.ags_image.proofs.tape_laws.tape_lines_ascend.Goals as goal

pub returns : goal.returns
returns c = tape_words
