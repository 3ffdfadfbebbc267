use Rattle.std.proofs.Common.{◌∙◌, sym}
use Rattle.ags_places.proofs.DeckLemmas.{source_ends, deck_only}
use Rattle.ags_places.proofs.laws.source_ends_at_its_first_end.Goals as goal

pub returns-clause-is : goal.returns-clause-is
returns-clause-is c = source_ends

pub returns-clause-one : goal.returns-clause-one
returns-clause-one c = λ lines cards other one too. deck_only lines cards one ∙ sym (deck_only lines other too)
