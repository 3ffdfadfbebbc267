use Rattle.std.proofs.Common.{refl, ◌∙◌}
use Rattle.ags_deda.specs.Panel.{counted}
use Rattle.ags_deda.proofs.StandingLemmas.{shown_counted, readout_keying}
use Rattle.ags_deda.proofs.panels.Panel.count.Goals as goal

pub returns : goal.returns
returns c = λ since inside stands.
    shown_counted c.args.self.now _ c.args.digit since inside stands refl refl refl refl (c.push-whole.ensures.filling (counted since) stands.group)
    (c.later_group-self.ensures ∙ rw (c.push-whole.ensures.whole (counted since) stands.group, (readout_keying c.args.self.now since stands inside).held, stands.shown) refl)
