use Rattle.ags_image.proofs.TapeMeaningLemmas.{each_tape_means, one_tape, one_fault, not_both}
use Rattle.ags_image.proofs.tape_laws.tape_reads_or_has_a_fault.Goals as goal

pub returns : goal.returns
returns c = record { some = each_tape_means; one = one_tape; fault = one_fault; not_both = not_both }
