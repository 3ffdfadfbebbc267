pub mod GuardLemmas
pub mod JudgeLemmas
pub mod PlayLemmas
pub mod SendingLemmas
