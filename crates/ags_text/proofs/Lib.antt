mod CutAt
pub mod CutLemmas
pub mod Deciding
mod Examples
pub mod FaultLemmas
pub mod FieldLaws
pub mod FollowLemmas
pub mod FrontLemmas
pub mod LineLemmas
pub mod NumberLaws
pub mod NumeralLemmas
pub mod PieceLemmas
pub mod ReadingLemmas
