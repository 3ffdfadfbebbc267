use Rattle.std.proofs.Common.{refl, rules}
use Rattle.ags_isa.proofs.CodeLemmas.{differ, tested_are_codes}
use Rattle.ags_isa.proofs.code_tables.Codes.standard.Goals as goal

-- by the tests, whatever the codes are: which they are, another clause says
pub made_of-requires : goal.made_of-requires
unfolding differ
made_of-requires c = tested_are_codes _ refl refl refl

pub returns-clause-table : goal.returns-clause-table
unfolding differ
returns-clause-table c = rw c.made_of.ensures (tested_are_codes _ refl refl refl)

pub returns-clause-codes : goal.returns-clause-codes
returns-clause-codes c = search rules
