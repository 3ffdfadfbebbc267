use Rattle.std.proofs.Common.{arith}
use Rattle.ags_script.proofs.NumberLemmas.{octal_read}
use Rattle.ags_script.proofs.operands.word_of.Goals as goal

pub returns : goal.returns
returns c = octal_read 6 c.args.text.now c.read_word.result (omega arith) c.read_word.ensures.found c.read_word.ensures.only
