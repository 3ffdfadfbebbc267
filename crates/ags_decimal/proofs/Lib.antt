pub mod CutLemmas
pub mod NumberLemmas
pub mod WordLemmas
pub mod RoundingLaws
pub mod SpellingLaws
