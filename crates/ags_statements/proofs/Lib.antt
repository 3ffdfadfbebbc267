-- The lines of a text, one after the other.
pub mod ReadLemmas
-- A text means one thing.
pub mod MeaningLemmas
-- What the statements of a text keep, one after the other.
pub mod KeptLemmas
