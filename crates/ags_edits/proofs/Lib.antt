-- What a line states, and that it states one thing at most.
pub mod LineLemmas
-- The edits so far.
pub mod EditLemmas
-- Each text means something.
pub mod MeaningLemmas
