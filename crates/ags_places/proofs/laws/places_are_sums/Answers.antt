use Rattle.ags_places.proofs.SumLemmas.{place-start, place-org}
use Rattle.ags_places.proofs.laws.places_are_sums.Goals as goal

pub returns : goal.returns
returns c = record { start = place-start; org = place-org }
