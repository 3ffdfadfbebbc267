use Rattle.std.proofs.Common.{refl}
use Rattle.ags_places.specs.Deck.{cards}
use Rattle.ags_asm.proofs.PassLemmas.{misplaced_so}
use Rattle.ags_asm.proofs.assembling.close_pass.Goals as goal

pub returns-in-Some-clause-refused : goal.returns-in-Some-clause-refused
returns-in-Some-clause-refused c = misplaced_so c.args.codes.now c.args.bytes.now c.args.pass (c.in-Some.card, c.in-Some.fault) c.requires c.in-Some.is

pub close-requires : goal.close-requires
close-requires c = record { within = (c.requires.ended c.in_default.is).half.within }

pub returns-clause-closed : goal.returns-clause-closed
returns-clause-closed c =
    let ended = c.requires.ended c.in_default.is in
    let all = cards c.args.bytes.now in
    rw c.in_ok-symbols.ensures (record {
      fits = ended.placed.fits;
      faultless = rw (ended.placed.faultless, c.close.ensures.fault all ended.before ended.half, c.in_default-close.is) refl;
      cards_are = ended.placed.cards_are;
      image_is = c.close.ensures.image all ended.before ended.half c.in_default-close.is;
    })
