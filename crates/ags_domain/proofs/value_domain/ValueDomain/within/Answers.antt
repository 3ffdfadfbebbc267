use Rattle.ags_domain.proofs.value_domain.ValueDomain.within.Goals as goal

pub returns-in-Words : goal.returns-in-Words
returns-in-Words c = rw c.in-Words.is c.is_within_set.ensures
