use Rattle.ags_recheck.proofs.LocationsLemmas.{here_from, others_from}
use Rattle.ags_recheck.proofs.locations.Locations.note.Goals as goal

pub returns-clause-here : goal.returns-clause-here
returns-clause-here c = here_from c.self.inside.words c.args.location c.requires c.self.invariant

pub returns-clause-others : goal.returns-clause-others
returns-clause-others c = others_from c.self.inside.words c.args.location c.requires c.self.invariant c.args.self.now c.self.view_is
