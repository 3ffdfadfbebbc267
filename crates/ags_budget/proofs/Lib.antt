-- The rows that are found.
pub mod FoundLemmas
-- What comes of a case that is accepted.
pub mod TimingLemmas
-- What a run spends.
pub mod SpentLemmas
-- Least bounds and greatest bounds: that there are some, and one alone.
pub mod LeastLemmas
-- That each budget has one answer.
pub mod OneLemmas
