use Rattle.std.proofs.Common.{refl, sym, ◌∙◌, arith}
use Rattle.ags_deda.specs.Happening.{since_clear}
use Rattle.ags_deda.proofs.MessageLemmas.{no_message, all_sent, next_digit}
use Rattle.ags_deda.proofs.StandingLemmas.{stands_since, sent_one, further_sent, message_keyed}
use Rattle.ags_deda.proofs.panels.Panel.sent.Goals as goal

pub returns-then-not-has_message-clause-answer : goal.returns-then-not-has_message-clause-answer
returns-then-not-has_message-clause-answer c = λ happenings stands.
    sym (no_message happenings (sym (c.has_message.ensures (since_clear happenings) (stands_since c.args.self.now happenings stands)) ∙ c.if-not-has_message.true))

pub returns-then-column-ge-COLUMNS-clause-answer : goal.returns-then-column-ge-COLUMNS-clause-answer
returns-then-column-ge-COLUMNS-clause-answer c = λ happenings stands.
    let since = stands_since c.args.self.now happenings stands in
    sym (all_sent happenings (sym (c.has_message.ensures (since_clear happenings) since) ∙ c.if-not-has_message.false) (omega (arith, since.sent)))

pub returns-clause-answer : goal.returns-clause-answer
returns-clause-answer c = λ happenings stands.
    let since = stands_since c.args.self.now happenings stands in
    let whole = sym (c.has_message.ensures (since_clear happenings) since) ∙ c.if-not-has_message.false in
    rw ((message_keyed c.args.self.now (since_clear happenings) since whole).digits, since.sent) (sym (next_digit happenings whole (omega (arith, since.sent))))

pub returns-clause-follows : goal.returns-clause-follows
returns-clause-follows c = λ happenings stands.
    further_sent _ _ happenings (sent_one c.args.self.now _ _ (since_clear happenings) (stands_since c.args.self.now happenings stands) refl refl refl refl refl refl)
