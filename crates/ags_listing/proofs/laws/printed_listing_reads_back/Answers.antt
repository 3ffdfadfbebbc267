use Rattle.ags_listing.proofs.ListingLemmas.{printed_reads}
use Rattle.ags_listing.proofs.laws.printed_listing_reads_back.Goals as goal

pub returns : goal.returns
returns c = printed_reads
