pub mod ListingLemmas
pub mod MeaningLemmas
pub mod SendingLemmas
