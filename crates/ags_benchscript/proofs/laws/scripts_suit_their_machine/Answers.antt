use Rattle.ags_benchscript.proofs.SuitingLaws.{read_suits}
use Rattle.ags_benchscript.proofs.laws.scripts_suit_their_machine.Goals as goal

pub returns : goal.returns
returns c = read_suits
