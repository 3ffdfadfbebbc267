pub mod EachLemmas
pub mod CaseLemmas
pub mod TurnLemmas
mod InOrderLemmas
pub mod VerdictLemmas
pub mod LocalityLemmas
mod TextLemmas
mod ListingLemmas
mod OrderLemmas
mod CountingLemmas
-- Walks have an outcome, and one alone.
pub mod OrderedLemmas
mod WalkLemmas
