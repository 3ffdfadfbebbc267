use Rattle.ags_image.proofs.TapeLemmas.{written_reads}
use Rattle.ags_image.proofs.tape_laws.written_tape_reads_back.Goals as goal

pub returns : goal.returns
returns c = written_reads
