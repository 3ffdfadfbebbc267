-- what the proofs of crates above cite
pub mod ReadingLemmas
