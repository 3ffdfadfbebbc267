use Rattle.std.proofs.Common.{rules}
use Rattle.ags_machfile.proofs.code_tables.code_given.Goals as goal

pub returns-then-digits-eq0-clause-code : goal.returns-then-digits-eq0-clause-code
returns-then-digits-eq0-clause-code c = search rules

pub returns-then-digits-eq0-clause-below : goal.returns-then-digits-eq0-clause-below
returns-then-digits-eq0-clause-below c = search rules
