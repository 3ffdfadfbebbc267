use Rattle.std.proofs.Common.{arith}
use Rattle.ags_listing.proofs.SendingLemmas.{word_beyond}
use Rattle.ags_listing.proofs.writing.word_there.Goals as goal

pub returns-else-place-from : goal.returns-else-place-from
returns-else-place-from c = word_beyond c.args.image.now c.args.place c.requires (omega (arith, c.if-place-from.false, c.from.ensures))
