use Rattle.ags_machfile.proofs.PairLemmas.{shared_pair-first, shared_pair-none, first-shared_pair, none-shared_pair, codes_in-shared, shared-codes_in}
use Rattle.ags_machfile.proofs.laws.shared_code_is_told_by_the_first_pair.Goals as goal

pub returns-clause-first : goal.returns-clause-first
returns-clause-first c = λ table first second. (shared_pair-first table (first, second), first-shared_pair table first second)

pub returns-clause-none : goal.returns-clause-none
returns-clause-none c = λ table. (shared_pair-none table, none-shared_pair table)

pub returns-clause-file : goal.returns-clause-file
returns-clause-file c = λ value first second.
    (codes_in-shared value first second, λ (table, numbers, least). shared-codes_in value first second table numbers least)
