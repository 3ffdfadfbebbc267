use Rattle.std.proofs.Common.{refl}
use Rattle.ags_text.specs.Numeral.{numeral}
use Rattle.ags_listing.proofs.writing.word_front.Goals as goal

pub returns : goal.returns
unfolding numeral
returns c = rw (c.decimal7.ensures, c.octal4.ensures, c.octal6.ensures) refl
