use Rattle.std.proofs.Common.{rules}
use Rattle.ags_certtext.proofs.signed.read_signed.Goals as goal

pub returns-in-Some-clause-found : goal.returns-in-Some-clause-found
returns-in-Some-clause-found c = search rules
