-- What a line states, and that it states one thing at most.
pub mod LineLemmas
-- The bounds so far.
pub mod BoundLemmas
-- The greatest bound.
pub mod GreatestLemmas
-- What a text means.
pub mod MeaningLaws
