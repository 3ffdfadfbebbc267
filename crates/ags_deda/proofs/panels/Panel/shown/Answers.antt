use Rattle.std.proofs.Common.{sym, ◌∙◌}
use Rattle.ags_deda.specs.Happening.{since_clear}
use Rattle.ags_deda.proofs.StandingLemmas.{stands_since, further_shown, shown_outside}
use Rattle.ags_deda.proofs.panels.Panel.shown.Goals as goal

pub returns-then-in_readout-clause-follows : goal.returns-then-in_readout-clause-follows
returns-then-in_readout-clause-follows c = λ happenings stands.
    let since = stands_since c.args.self.now happenings stands in
    further_shown _ c.args.digit happenings (c.count.ensures (since_clear happenings) (sym (c.in_readout.ensures (since_clear happenings) since) ∙ c.if-in_readout.true) since)

pub returns-else-in_readout-clause-follows : goal.returns-else-in_readout-clause-follows
returns-else-in_readout-clause-follows c = λ happenings stands.
    let since = stands_since c.args.self.now happenings stands in
    further_shown _ c.args.digit happenings
    (shown_outside c.args.self.now c.args.digit (since_clear happenings) (sym (c.in_readout.ensures (since_clear happenings) since) ∙ c.if-in_readout.false) since)
