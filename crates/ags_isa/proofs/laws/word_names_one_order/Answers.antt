use Rattle.ags_isa.proofs.WordLemmas.{names-one}
use Rattle.ags_isa.proofs.laws.word_names_one_order.Goals as goal

pub returns-clause-order : goal.returns-clause-order
returns-clause-order c = λ table word order other indexed bit address other_address are one another.
    (names-one table are word order other indexed bit address other_address one another).0

pub returns-clause-index : goal.returns-clause-index
returns-clause-index c = λ table word order other indexed bit address other_address are one another.
    (names-one table are word order other indexed bit address other_address one another).1

pub returns-clause-address : goal.returns-clause-address
returns-clause-address c = λ table word order other indexed bit address other_address are one another.
    (names-one table are word order other indexed bit address other_address one another).2
