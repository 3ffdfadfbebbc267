-- What the crate promises: the reading of lines stands in the clauses of its functions, and what a statement's numbers are and that a
-- line has one reading in laws.
pub mod StatementLemmas
pub mod ReadingLaws
-- What stands below.
pub mod NumberLemmas
pub mod ValueLemmas
pub mod WordLemmas
pub mod FlagLemmas
pub mod FrontLemmas
pub mod FoundLemmas
pub mod FlagFound
pub mod KeywordLemmas
pub mod StatementFound
pub mod LeastLemmas
