use Rattle.ags_machfile.proofs.NumbersLemmas.{all_numbers-ok, all_numbers-err, numbers-are_found, fault-is_found}
use Rattle.ags_machfile.proofs.laws.table_gives_each_order_its_number.Goals as goal

pub returns-clause-numbers : goal.returns-clause-numbers
returns-clause-numbers c = λ entry numbers. (all_numbers-ok entry numbers, numbers-are_found entry numbers)

pub returns-clause-fault : goal.returns-clause-fault
returns-clause-fault c = λ entry fault. (all_numbers-err entry fault, fault-is_found entry fault)
