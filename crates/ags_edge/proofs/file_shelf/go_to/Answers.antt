use Rattle.std.proofs.Common.{rules}
use Rattle.ags_edge.proofs.file_shelf.go_to.Goals as goal

pub returns-clause-there : goal.returns-clause-there
returns-clause-there g c = search rules

pub returns-clause-brought : goal.returns-clause-brought
returns-clause-brought g c = search rules
