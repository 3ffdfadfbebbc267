use Rattle.ags_listing.specs.Reads.{listing_form}
use Rattle.ags_listing.proofs.forms.ListingLineForm.read.Goals as goal

pub returns-clause-form : goal.returns-clause-form
unfolding listing_form
returns-clause-form c = rw (← c.is_ruled.ensures.ruled, c.if-not-is_ruled.false) c.read_entry.ensures.said
