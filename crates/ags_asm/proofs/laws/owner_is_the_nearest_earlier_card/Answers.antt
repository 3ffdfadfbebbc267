use Rattle.ags_asm.proofs.OwnerLemmas.{owner_stands, owner_nearest, owner_none, owner_of, unowned, only_one}
use Rattle.ags_asm.proofs.laws.owner_is_the_nearest_earlier_card.Goals as goal

pub returns-clause-some : goal.returns-clause-some
returns-clause-some c = λ S before number at.
    (λ is. (owner_stands S at before number is, λ other. owner_nearest S at before number other is), owner_of S at before number)

pub returns-clause-none : goal.returns-clause-none
returns-clause-none c = λ S before at. (owner_none S at before, unowned S at before)

pub returns-clause-one : goal.returns-clause-one
returns-clause-one c = λ S cards at one other none. only_one S cards at none one other
