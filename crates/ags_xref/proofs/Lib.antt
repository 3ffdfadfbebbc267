pub mod NamesLemmas
pub mod NamingLemmas
pub mod OrderLemmas
pub mod RowLemmas
pub mod SendingLemmas
