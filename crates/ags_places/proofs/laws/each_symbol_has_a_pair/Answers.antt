use Rattle.ags_places.proofs.NameLemmas.{names_fit, each_symbol_once}
use Rattle.ags_places.proofs.laws.each_symbol_has_a_pair.Goals as goal

pub returns : goal.returns
returns c = record { names = names_fit; once = each_symbol_once }
