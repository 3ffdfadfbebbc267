-- What a line states, and that it states one thing at most.
pub mod LineLemmas
-- Scales and tags of rows as fields.
pub mod NumberLemmas
-- Lists of what entries state, in general.
pub mod NotedLemmas
-- The tags so far.
pub mod TagLemmas
-- Each text means something.
pub mod MeaningLemmas
