use Rattle.ags_deda.specs.Happening.{keys_of}
use Rattle.ags_deda.proofs.StandingLemmas.{dark_keying}
use Rattle.ags_deda.proofs.panels.Panel.has_message.Goals as goal

pub returns-then-not-self : goal.returns-then-not-self
returns-then-not-self c = λ since stands. c.is_whole.ensures (keys_of since) (dark_keying c.args.self.now since stands c.if-not-self.true)
