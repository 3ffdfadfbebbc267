use Rattle.ags_recheck.proofs.LocationsLemmas.{zeros_have_none}
use Rattle.ags_recheck.proofs.locations.Locations.new.Goals as goal

pub returns : goal.returns
returns c = zeros_have_none
