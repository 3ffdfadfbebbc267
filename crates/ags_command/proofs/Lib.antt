pub mod CommandLemmas
pub mod AskedLemmas
