use Rattle.std.proofs.Common.{◌≡◌, true}
use Rattle.ags_verdict.specs.Locality.{GoesTo}
use Rattle.ags_recheck.specs.Locations.{has_location}
use Rattle.ags_recheck.proofs.NotingLemmas.{both_noted}
use Rattle.ags_recheck.proofs.noting.note_pair.Goals as goal

pub note-requires : goal.note-requires
note-requires c = c.requires.0

pub note-requires-2 : goal.note-requires-2
note-requires-2 c = c.requires.1

pub returns : goal.returns
returns c = λ location. both_noted (has_location c.args.locations.now location ≡ true) (has_location c.note.new.locations location ≡ true)
    (has_location c.note-2.new.locations location ≡ true) (GoesTo c.args.pair.now.first location) (GoesTo c.args.pair.now.second location)
    (c.note.ensures location) (c.note-2.ensures location)
