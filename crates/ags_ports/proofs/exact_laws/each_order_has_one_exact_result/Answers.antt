use Rattle.ags_ports.proofs.ExactLemmas.{result_one, result_some, quotient_some, quotient_zero}
use Rattle.ags_ports.proofs.exact_laws.each_order_has_one_exact_result.Goals as goal

pub returns-clause-one : goal.returns-clause-one
returns-clause-one c = result_one

pub returns-clause-some : goal.returns-clause-some
returns-clause-some c = result_some

pub returns-clause-quotient : goal.returns-clause-quotient
returns-clause-quotient c = quotient_some

pub returns-clause-zero : goal.returns-clause-zero
returns-clause-zero c = quotient_zero
