use Rattle.ags_listing.proofs.MeaningLemmas.{each_listing_means, one_listing, one_fault, not_both}
use Rattle.ags_listing.proofs.laws.listing_reads_or_has_a_fault.Goals as goal

pub returns-clause-some : goal.returns-clause-some
returns-clause-some c = each_listing_means

pub returns-clause-one : goal.returns-clause-one
returns-clause-one c = one_listing

pub returns-clause-fault : goal.returns-clause-fault
returns-clause-fault c = one_fault

pub returns-clause-not_both : goal.returns-clause-not_both
returns-clause-not_both c = not_both
