use Rattle.std.proofs.Common.{rules, arith}
use Rattle.std.proofs.lemmas.Grind.{common_steps}
use Rattle.ags_image.specs.Tape.{tape_form}
use Rattle.ags_image.proofs.tape_forms.TapeLineForm.read.Goals as goal

pub read_columns-requires-clause-six : goal.read_columns-requires-clause-six
unfolding tape_form
read_columns-requires-clause-six c = search rules

pub returns-in-Some-clause-form : goal.returns-in-Some-clause-form
unfolding tape_form
returns-in-Some-clause-form c = grind (arith, common_steps)
