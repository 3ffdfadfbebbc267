use Rattle.std.proofs.Common.{refl, sym, ◌∙◌, rules}
use Rattle.ags_times.proofs.BoundLemmas.{not_named}
use Rattle.ags_times.proofs.gatherers.Gatherer.take_bound.Goals as goal

pub returns-then-has_no_row-clause-untaken : goal.returns-then-has_no_row-clause-untaken
returns-then-has_no_row-clause-untaken c = λ version before g.
    let out = sym c.has_no_row.ensures ∙ c.if-has_no_row.true in
    let ended = sym g.ended_is ∙ c.requires in
    let other = not_named c.args.self.now.bounds.items c.args.self.now.ended before c.args.its.row g out in
    rw (ended, other, out) refl

pub returns-clause-taken : goal.returns-clause-taken
returns-clause-taken c = search rules
