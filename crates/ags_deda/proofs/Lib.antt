pub mod KeyLemmas
pub mod SpellingLemmas
pub mod GroupLemmas
pub mod DisplayLaws
pub mod MessageLemmas
pub mod StandingLemmas
