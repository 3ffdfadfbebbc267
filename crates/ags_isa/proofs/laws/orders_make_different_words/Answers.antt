use Rattle.ags_isa.proofs.WordLemmas.{words-one, order_word-below}
use Rattle.ags_isa.proofs.laws.orders_make_different_words.Goals as goal

pub returns-clause-order : goal.returns-clause-order
returns-clause-order c = λ table order other indexed bit address other_address are below other_below same.
    (words-one table are order other indexed bit address other_address below other_below same).0

pub returns-clause-index : goal.returns-clause-index
returns-clause-index c = λ table order other indexed bit address other_address are below other_below same.
    (words-one table are order other indexed bit address other_address below other_below same).1

pub returns-clause-address : goal.returns-clause-address
returns-clause-address c = λ table order other indexed bit address other_address are below other_below same.
    (words-one table are order other indexed bit address other_address below other_below same).2

pub returns-clause-below : goal.returns-clause-below
returns-clause-below c = λ table order indexed address are below. order_word-below table are order indexed address below
