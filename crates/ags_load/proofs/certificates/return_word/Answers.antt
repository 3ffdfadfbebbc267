use Rattle.std.proofs.Common.{rules}
use Rattle.ags_load.proofs.certificates.return_word.Goals as goal

pub returns : goal.returns
returns c = search rules
