use Rattle.std.proofs.Common.{refl}
use Rattle.ags_deda.specs.Happening.{keys_of}
use Rattle.ags_deda.proofs.StandingLemmas.{pressed_lawful, pressed_wrong, keying_dark, keyed_dark}
use Rattle.ags_deda.proofs.panels.Panel.take.Goals as goal

pub returns-in-Some : goal.returns-in-Some
returns-in-Some c = λ since clr stands dark.
    let keying = keying_dark c.args.self.now since stands dark in
    let lawful = c.in-Some.ensures.lawful (keys_of since) keying in
    pressed_lawful c.args.self.now _ c.args.key since stands dark lawful.0 refl lawful.1
    (c.write.ensures (keys_of since) (c.count-count.ensures (keys_of since) keying) (keyed_dark c.args.self.now since stands dark)) refl refl refl

pub returns-in-None : goal.returns-in-None
returns-in-None c = λ since clr stands dark.
    pressed_wrong c.args.self.now _ c.args.key since stands (c.in-None.ensures.wrong (keys_of since) (keying_dark c.args.self.now since stands dark)) refl refl refl refl refl refl
