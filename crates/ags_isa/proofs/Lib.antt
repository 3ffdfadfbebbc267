pub mod OrderLemmas
pub mod CodeLemmas
pub mod WordLemmas
