use Rattle.std.proofs.Common.{refl, sym, ◌∙◌}
use Rattle.ags_times.proofs.BoundLemmas.{with_end}
use Rattle.ags_times.proofs.gatherers.GathererGathers.take.Goals as goal

pub returns-in-End-clause-taken : goal.returns-in-End-clause-taken
returns-in-End-clause-taken c = λ before g.
    let ended = sym g.ended_is ∙ c.if-self.false in
    rw c.in-End.is (rw ended refl, with_end c.args.self.now.bounds.items c.args.self.now.ended before g)

pub returns-in-Bound-clause-untaken : goal.returns-in-Bound-clause-untaken
returns-in-Bound-clause-untaken c = rw c.in-Bound.is (c.take_bound.ensures.untaken c.args.version)
