-- A line is cut after some of its fields.
pub mod CutLemmas
-- The longest value.
pub mod LongestLemmas
