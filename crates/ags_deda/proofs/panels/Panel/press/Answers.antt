use Rattle.std.proofs.Common.{sym, ◌∙◌}
use Rattle.ags_deda.specs.Happening.{since_clear}
use Rattle.ags_deda.proofs.StandingLemmas.{cleared, further_key, stands_since, pressed_dark}
use Rattle.ags_deda.proofs.panels.Panel.press.Goals as goal

pub returns-then-is_clr : goal.returns-then-is_clr
returns-then-is_clr c = λ happenings stands. cleared c.new.result c.args.key happenings (sym c.is_clr.ensures ∙ c.if-is_clr.true) c.new.ensures

pub returns-then-self : goal.returns-then-self
returns-then-self c = λ happenings stands.
    further_key c.args.self.now c.args.key happenings (sym c.is_clr.ensures ∙ c.if-is_clr.false)
    (pressed_dark c.args.self.now c.args.key (since_clear happenings) (stands_since c.args.self.now happenings stands) c.if-self.true)

pub returns : goal.returns
returns c = λ happenings stands.
    let since = stands_since c.args.self.now happenings stands in
    let clr = sym c.is_clr.ensures ∙ c.if-is_clr.false in
    further_key c.take.new.self c.args.key happenings clr (c.take.ensures (since_clear happenings) clr since (sym since.light ∙ c.if-self.false))
