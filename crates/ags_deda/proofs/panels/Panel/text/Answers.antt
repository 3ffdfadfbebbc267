use Rattle.std.proofs.Common.{◌∙◌, refl}
use Rattle.ags_deda.specs.Happening.{since_clear}
use Rattle.ags_deda.specs.Panel.{text}
use Rattle.ags_deda.specs.Standing.{StandsFor}
use Rattle.ags_deda.proofs.panels.Panel.text.Goals as goal

pub returns : goal.returns
unfolding text StandsFor
returns c = λ happenings stands. c.with_tenth.ensures ∙ rw (c.columns.ensures (since_clear happenings) stands, c.light_character.ensures, stands.light) refl
