use Rattle.ags_tags.proofs.gatherers.GathererGathers.take.Goals as goal

pub returns-in-Scaled-clause-untaken : goal.returns-in-Scaled-clause-untaken
returns-in-Scaled-clause-untaken c = rw c.in-Scaled.is (c.take_entry.ensures.untaken c.args.version)

pub returns-in-Tagged-clause-untaken : goal.returns-in-Tagged-clause-untaken
returns-in-Tagged-clause-untaken c = rw c.in-Tagged.is (c.take_row.ensures.untaken c.args.version)
