use Rattle.ags_xref.proofs.NamesLemmas.{naming_ascends, naming_names, names_naming}
use Rattle.ags_xref.proofs.laws.naming_cards_ascend.Goals as goal

pub returns-clause-ascend : goal.returns-clause-ascend
returns-clause-ascend c = naming_ascends

pub returns-clause-exactly : goal.returns-clause-exactly
returns-clause-exactly c = λ cards name number. (naming_names cards name number, names_naming cards name number)
