-- The answer that tells what fails first.
pub mod JudgingLemmas
-- What comes of a case that is accepted.
pub mod TaggingLemmas
-- What orders do to the tags of a run and of a row that holds them.
pub mod ChangeLemmas
mod ScalingLemmas
-- What the tags tell of words.
pub mod ValueLemmas
-- What the tags tell of a step.
pub mod StepLemmas
-- The tags after an event.
pub mod NextLemmas
-- Tagged runs.
pub mod TaggedLemmas
-- Scales have an answer, and one alone.
pub mod OneLemmas
-- Scales that are accepted.
pub mod AcceptedLemmas
