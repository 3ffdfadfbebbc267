use Rattle.ags_listing.proofs.SendingLemmas.{listing_is}
use Rattle.ags_listing.proofs.writing.send_listing.Goals as goal

pub returns-clause-sent : goal.returns-clause-sent
returns-clause-sent g c = rw (c.deref.ensures.value, listing_is c.args.bytes.now c.args.made.now c.requires) at c.send_cards.ensures.sent

pub returns-clause-front : goal.returns-clause-front
returns-clause-front g c = rw (c.deref.ensures.value, listing_is c.args.bytes.now c.args.made.now c.requires) at c.send_cards.ensures.front
