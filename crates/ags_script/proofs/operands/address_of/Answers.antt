use Rattle.std.proofs.Common.{arith}
use Rattle.ags_script.proofs.NumberLemmas.{octal_read}
use Rattle.ags_script.proofs.operands.address_of.Goals as goal

pub returns : goal.returns
returns c = octal_read 4 c.args.text.now c.read_address.result (omega arith) c.read_address.ensures.found c.read_address.ensures.only
