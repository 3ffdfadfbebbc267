use Rattle.ags_listing.proofs.MeaningLemmas.{written_reads}
use Rattle.ags_listing.proofs.laws.written_listing_reads_back.Goals as goal

pub returns : goal.returns
returns c = written_reads
