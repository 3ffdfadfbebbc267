use Rattle.ags_word.proofs.LongLaws.{IsCutOff-divided, divided-some, divided-exact, divided-none, divided-zero, divided-over}
use Rattle.ags_word.proofs.laws.division_cuts_off.Goals as goal

pub returns-clause-quotient : goal.returns-clause-quotient
returns-clause-quotient c = IsCutOff-divided

pub returns-clause-some : goal.returns-clause-some
returns-clause-some c = divided-some

pub returns-clause-exact : goal.returns-clause-exact
returns-clause-exact c = divided-exact

pub returns-clause-none : goal.returns-clause-none
returns-clause-none c = divided-none

pub returns-clause-zero : goal.returns-clause-zero
returns-clause-zero c = divided-zero

pub returns-clause-over : goal.returns-clause-over
returns-clause-over c = divided-over
