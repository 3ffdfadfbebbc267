use Rattle.std.proofs.Common.{refl}
use Rattle.ags_text.specs.Numeral.{numeral}
use Rattle.ags_image.proofs.tape_writing.line_of.Goals as goal

pub returns : goal.returns
unfolding numeral
returns c = rw (c.octal4.ensures, c.octal6.ensures, c.from.ensures) refl
