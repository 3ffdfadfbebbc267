pub mod LongLaws
pub mod RoundingLaws
pub mod WordLaws
mod SumLemmas
